use Rattle.std.proofs.Common.{sym}
use Rattle.vc_intervals.proofs.Toggled.{toggled-all}
use Rattle.vc_intervals.proofs.Behind.{unbounded-told}
use Rattle.vc_intervals.proofs.interval_set.IntervalSet.is_unbounded_above.Goals as goal

pub returns-clause-holds : goal.returns-clause-holds
returns-clause-holds g c x h =
    rw (c.has_behind.ensures, c.boundaries.ensures.boundaries)
    (sym (toggled-all g.T.Ord.cmp c.args.self.now.below c.args.self.now.boundaries x h))

pub returns-clause-listed : goal.returns-clause-listed
returns-clause-listed g c =
    rw (c.has_behind.ensures, c.boundaries.ensures.boundaries) (unbounded-told c.args.self.now.below c.args.self.now.boundaries)
