use Rattle.vc_total_maps.proofs.Pointwise.{standing-is-at}
use Rattle.vc_total_maps.proofs.laws.standing_is_at.Goals as goal

pub returns : goal.returns
returns g c = standing-is-at g.met.V.Eq.laws g.K.Ord.cmp
