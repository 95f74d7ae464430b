use Rattle.std.proofs.Common.{rules}
use Rattle.vc_intervals.proofs.Toggled.{toggled-not}
use Rattle.vc_intervals.proofs.interval_set.IntervalSetNot.not.Goals as goal

pub returns : goal.returns
returns g c = search (rules, toggled-not)
