use Rattle.vc_intervals.proofs.OneList.{one-made}
use Rattle.vc_intervals.proofs.laws.intervals_of_are_one.Goals as goal

pub returns : goal.returns
returns g c = one-made g.T.Ord.cmp g.met.T.Ord.total g.T.Clone.is_clone
