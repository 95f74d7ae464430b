use Rattle.vc_maps.proofs.Editing.{found-value, gap-value}
use Rattle.vc_maps.proofs.vec_map.AbstractVecMap.get.Goals as goal

pub returns-in-Err : goal.returns-in-Err
returns-in-Err g c = cc (gap-value g.met.K.Ord.total c.in-Err.ensures)

pub returns-in-Ok : goal.returns-in-Ok
returns-in-Ok g c = cc (found-value g.met.K.Ord.total c.in-Ok.ensures c.index-pairs-place.result)
