use Rattle.std.proofs.Common.{length, ap, ◌∙◌}
use Rattle.vc_maps.proofs.vec_map.VecMap.len.Goals as goal

pub returns : goal.returns
returns g c = c.len.ensures.value ∙ ap length c.self.view_is
