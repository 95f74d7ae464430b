use Rattle.vc_intervals.proofs.OneList.{members-tell}
use Rattle.vc_intervals.proofs.laws.members_tell_the_boundaries.Goals as goal

pub returns : goal.returns
returns g c = members-tell g.T.Ord.cmp g.met.T.Ord.total
