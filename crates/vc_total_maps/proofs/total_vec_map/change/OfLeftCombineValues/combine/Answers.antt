use Rattle.vc_total_maps.proofs.Mapping.{if-says}
use Rattle.vc_total_maps.proofs.total_vec_map.change.OfLeftCombineValues.combine.Goals as goal

pub returns : goal.returns
returns g c = if-says _ _ _ c.call.result c.call.ensures
