use Rattle.vc_intervals.proofs.Tested.{disjoint-told}
use Rattle.vc_intervals.proofs.interval_set.IntervalSet.is_disjoint.Goals as goal

pub returns : goal.returns
returns g c =
    rw (← c.self.view_is, ← c.that.view_is, ← c.as_slice-left.ensures, ← c.as_slice-right.ensures)
    (disjoint-told g.T.Ord.cmp _ _ c.has_witness.result c.has_witness.ensures.found)
