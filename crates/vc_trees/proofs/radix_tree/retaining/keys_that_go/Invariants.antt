-- What is noted of the pairs so far, and then of those that are left, is noted of all.
use Rattle.vc_tree_walks.specs.IterLeft.{pairs_left}
use Rattle.vc_trees.specs.RetainedPairs.{MayTell, binds}
use Rattle.vc_trees.proofs.Noting.{IsNotedUpTo}
use Rattle.vc_trees.proofs.radix_tree.retaining.keys_that_go.Given as goal

abbrev pub invariant-loop-pair : goal.invariant-loop-pair
invariant-loop-pair g l =
    (goal.iterator-loop-pair g).can_next l.pair-iterator
    × (goal.iterator-loop-pair g).is_finite l.pair-iterator
    × IsNotedUpTo g.K.Ord.cmp g.met.K.Ord.total (MayTell g.F.Fn l.fn.keep) (g.T.RadixNode.tree l.fn.tree)
    (pairs_left g.T.RadixNode.tree l.pair-iterator) (binds g.K.Ord.cmp (g.G.RadixNode.tree l.going))
