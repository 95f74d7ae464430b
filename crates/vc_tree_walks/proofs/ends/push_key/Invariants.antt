-- The pair at the end is that of the node behind a front, and behind what stood before it the key is that front and the node's
-- prefix.
use Rattle.std.proofs.Common.{◌≡◌, ◌++◌, List}
use Rattle.vc_tree_model.specs.Tree.{nodes}
use Rattle.vc_tree_walks.proofs.EndPairs.{Reaches}
use Rattle.vc_tree_walks.proofs.ends.push_key.Given as goal

abbrev pub invariant-loop-child : goal.invariant-loop-child
invariant-loop-child g l =
    let tree = g.T.RadixNode.tree in
    (key : List g.row.K.Denot) × Reaches l.end (tree l.tree) (tree l.node) key × (l.key.items ≡ l.fn.key.items ++ key)

abbrev pub decreases-loop-child : goal.decreases-loop-child
decreases-loop-child g l = nodes (g.T.RadixNode.tree l.node)
