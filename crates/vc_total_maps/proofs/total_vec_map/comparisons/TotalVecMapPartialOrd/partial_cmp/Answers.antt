use Rattle.vc_total_maps.proofs.Comparing.{pairs-agree}
use Rattle.vc_total_maps.proofs.total_vec_map.comparisons.TotalVecMapPartialOrd.partial_cmp.Goals as goal

pub returns : goal.returns
returns g c = rw c.cmp.ensures (pairs-agree g.met.K.Ord.matches_partial_cmp g.met.V.Ord.matches_partial_cmp _ _ _ _)
