use Rattle.vc_intervals.proofs.Tested.{subset-told}
use Rattle.vc_intervals.proofs.interval_set.IntervalSet.is_subset.Goals as goal

pub returns : goal.returns
returns g c =
    rw (← c.self.view_is, ← c.that.view_is, ← c.as_slice-left.ensures, ← c.as_slice-right.ensures)
    (subset-told g.T.Ord.cmp _ _ c.has_witness.result c.has_witness.ensures.found)
