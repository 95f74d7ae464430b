use Rattle.std.proofs.Common.{sym, subst}
use Rattle.vc_merge.specs.Ascending.{Ascends}
use Rattle.vc_merge.proofs.Clones.{clone-equal, clones-ascend}
use Rattle.vc_intervals.proofs.interval_set.IntervalSet.clone.Goals as goal

pub invariant_of-result : goal.invariant_of-result
invariant_of-result g c =
    let ascends = subst (λ l. Ascends g.T.Ord.cmp l) (sym c.boundaries.ensures.boundaries) c.boundaries.ensures.ascends in
    clones-ascend g.T.Ord.cmp g.met.T.Ord.total g.T.Clone.is_clone
    (clone-equal g.T.Ord.cmp g.met.T.Ord.total g.T.Clone.is_clone c.requires.clones) _ _ c.in_ok-clones_of.ensures ascends
