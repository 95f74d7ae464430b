use Rattle.vc_total_maps.proofs.total_vec_map.comparisons.TotalVecMapPartialEq.eq.Goals as goal

pub returns-then-eq : goal.returns-then-eq
returns-then-eq g c = rw (← c.self.view_is, ← c.other.view_is, ← c.eq.ensures, c.if-eq.true) c.eq-then-eq.ensures

pub returns-else-eq : goal.returns-else-eq
returns-else-eq g c = rw (← c.self.view_is, ← c.other.view_is, ← c.eq.ensures, c.if-eq.false)
