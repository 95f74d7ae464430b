use Rattle.vc_intervals.proofs.OneList.{listed-holds}
use Rattle.vc_intervals.proofs.laws.listed_intervals_hold.Goals as goal

pub returns : goal.returns
returns g c = listed-holds g.T.Ord.cmp g.met.T.Ord.total
