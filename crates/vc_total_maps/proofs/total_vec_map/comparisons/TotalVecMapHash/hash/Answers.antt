use Rattle.vc_total_maps.proofs.total_vec_map.comparisons.TotalVecMapHash.hash.Goals as goal

pub returns : goal.returns
returns g c = rw (← c.self.view_is) c.hash.ensures
