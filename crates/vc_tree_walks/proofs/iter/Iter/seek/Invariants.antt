-- What is left of the walk is what comes behind the pairs of the node.
use Rattle.vc_tree_model.specs.Tree.{nodes}
use Rattle.vc_tree_walks.proofs.WalkingFrom.{IsSeeking}
use Rattle.vc_tree_walks.proofs.iter.Iter.seek.Given as goal

abbrev pub invariant-loop-walk : goal.invariant-loop-walk
invariant-loop-walk g l = IsSeeking g.K.Ord.cmp g.T.RadixNode.tree l.tree l.key l.node l.known l.walk l.siblings

abbrev pub decreases-loop-walk : goal.decreases-loop-walk
decreases-loop-walk g l = nodes (g.T.RadixNode.tree l.node)
