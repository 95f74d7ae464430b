use Rattle.vc_total_maps.proofs.Pointwise.{combined-is-pointwise}
use Rattle.vc_total_maps.proofs.laws.combined_is_pointwise.Goals as goal

pub returns : goal.returns
returns g c = combined-is-pointwise g.met.V.Eq.laws g.K.Ord.cmp g.K.Clone.is_clone _
