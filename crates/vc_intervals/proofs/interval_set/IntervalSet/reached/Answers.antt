use Rattle.std.proofs.Common.{true}
use Rattle.vc_merge.proofs.Cutting.{cut-found, cut-gap}
use Rattle.vc_intervals.proofs.interval_set.IntervalSet.reached.Goals as goal

pub returns-in-Ok : goal.returns-in-Ok
returns-in-Ok g c = rw (← c.boundaries.ensures.boundaries) (cut-found (λ y. g.T.Ord.cmp y c.args.value.now) true _ _ c.in-Ok.ensures)

pub returns-in-Err : goal.returns-in-Err
returns-in-Err g c = rw (← c.boundaries.ensures.boundaries) (cut-gap (λ y. g.T.Ord.cmp y c.args.value.now) true _ _ c.in-Err.ensures)
