use Rattle.vc_total_maps.proofs.Comparing.{then-other, then-equal}
use Rattle.vc_total_maps.proofs.total_vec_map.comparisons.TotalVecMapOrd.cmp.Goals as goal

pub returns-in-Equal : goal.returns-in-Equal
returns-in-Equal g c = rw (← c.self.view_is, ← c.other.view_is, ← c.cmp.ensures)
    (then-equal c.cmp.result _ _ c.in-Equal.is c.cmp-in-Equal.ensures)

pub returns-in_default : goal.returns-in_default
returns-in_default g c = rw (← c.self.view_is, ← c.other.view_is, ← c.cmp.ensures)
    (then-other c.cmp.result _ c.in_default.not-Equal)
