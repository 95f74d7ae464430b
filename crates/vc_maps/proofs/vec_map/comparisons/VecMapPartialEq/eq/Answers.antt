use Rattle.vc_maps.proofs.vec_map.comparisons.VecMapPartialEq.eq.Goals as goal

pub returns : goal.returns
returns g c = rw (c.as_ref.ensures.pairs, c.as_ref-2.ensures.pairs) at c.eq.ensures
