use Rattle.core.proofs.iter.runs.Sources.{from_front, from_back}
use Rattle.std.proofs.Common.{length, ap}
use Rattle.std.specs.Map.Iter.{TakesFirst, TakesLast}
use Rattle.vc_intervals.specs.Boundaries.{intervals}
use Rattle.vc_intervals.specs.Listed.{shown_ends}
use Rattle.vc_intervals.proofs.OneList.{listed-holds}
use Rattle.vc_intervals.proofs.interval_set.IntervalSet.iter.Goals as goal

pub returns-clause-holds : goal.returns-clause-holds
returns-clause-holds g c x =
    rw (← c.self.view_is, ← c.as_slice.ensures)
    (listed-holds g.T.Ord.cmp g.met.T.Ord.total (intervals c.as_slice.result.now c.self.inside.below) (rw c.as_slice.ensures c.self.invariant) x)

pub returns-clause-runs : goal.returns-clause-runs
returns-clause-runs g c =
    from_front (TakesFirst (shown_ends {X = g.row.T.Denot})) shown_ends (λ s. s) (λ s t h. ap length h.0) (λ s x t h. h)

pub returns-clause-reverse : goal.returns-clause-reverse
returns-clause-reverse g c =
    from_back (TakesLast (shown_ends {X = g.row.T.Denot})) shown_ends (λ s. s) (λ s t h. ap length h.0) (λ s x t h. h)
