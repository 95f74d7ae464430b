use Rattle.vc_maps.proofs.Editing.{place-has_value}
use Rattle.vc_maps.proofs.vec_map.AbstractVecMap.contains_key.Goals as goal

pub returns : goal.returns
returns g c = cc (place-has_value g.met.K.Ord.total c.as_slice.result.now c.args.key.now c.find_key.result c.find_key.ensures)
