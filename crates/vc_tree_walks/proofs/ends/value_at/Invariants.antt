-- The pair at the end is that of the node behind a front, whose components and those of the node's prefix were counted.
use Rattle.std.proofs.Common.{◌≡◌, ◌-◌, ◌^◌, List, length, min}
use Rattle.vc_tree_model.specs.Tree.{nodes}
use Rattle.vc_tree_walks.proofs.EndPairs.{Reaches}
use Rattle.vc_tree_walks.proofs.ends.value_at.Given as goal

abbrev pub invariant-loop-child : goal.invariant-loop-child
invariant-loop-child g l =
    let tree = g.T.RadixNode.tree in
    (key : List g.row.K.Denot) × Reaches l.end (tree l.tree) (tree l.node) key × (l.length ≡ min (length key) (2 ^ 64 - 1))

abbrev pub decreases-loop-child : goal.decreases-loop-child
decreases-loop-child g l = nodes (g.T.RadixNode.tree l.node)
