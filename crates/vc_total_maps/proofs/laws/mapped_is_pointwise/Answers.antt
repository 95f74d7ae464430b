use Rattle.vc_total_maps.proofs.Pointwise.{mapped-is-pointwise}
use Rattle.vc_total_maps.proofs.laws.mapped_is_pointwise.Goals as goal

pub returns : goal.returns
returns g c = mapped-is-pointwise g.met.W.Eq.laws g.K.Ord.cmp g.K.Clone.is_clone _
