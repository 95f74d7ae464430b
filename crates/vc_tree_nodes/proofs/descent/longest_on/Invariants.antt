-- What the node covers of the rest of the path decides, or else the longest key on the way so far; the node is known to agree
-- with the path so far.
use Rattle.vc_tree_model.specs.Tree.{nodes}
use Rattle.vc_tree_nodes.specs.Parting.{Agree}
use Rattle.vc_tree_nodes.proofs.Longest.{Decides, shown}
use Rattle.vc_tree_nodes.proofs.descent.longest_on.Given as goal

abbrev pub invariant-loop-left : goal.invariant-loop-left
invariant-loop-left g l =
    let tree = g.T.RadixNode.tree in
    Decides g.K.Ord.cmp (tree l.tree) l.path (tree l.node) l.rest (shown l.longest)
    × Agree g.K.Ord.cmp (tree l.node).prefix l.rest l.agreed

abbrev pub decreases-loop-left : goal.decreases-loop-left
decreases-loop-left g l = nodes (g.T.RadixNode.tree l.node)
