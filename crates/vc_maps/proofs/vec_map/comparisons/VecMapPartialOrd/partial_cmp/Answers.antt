use Rattle.vc_maps.proofs.vec_map.comparisons.VecMapPartialOrd.partial_cmp.Goals as goal

pub returns : goal.returns
returns g c = rw (c.as_ref.ensures.pairs, c.as_ref-2.ensures.pairs) at c.partial_cmp.ensures
