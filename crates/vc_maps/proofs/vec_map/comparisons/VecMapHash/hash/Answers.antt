use Rattle.vc_maps.proofs.vec_map.comparisons.VecMapHash.hash.Goals as goal

pub returns : goal.returns
returns g c = rw c.as_ref.ensures.pairs at c.hash.ensures
