use Rattle.std.specs.List.Sorted.{IsStrictlySortedBy}
use Rattle.vc_intervals.proofs.interval_set.IntervalSet.at_least.Goals as goal

pub invariant_of-result : goal.invariant_of-result
unfolding IsStrictlySortedBy
invariant_of-result g c = rw (c.in_ok-push.ensures.ok, c.new-single.ensures.items) (tt, tt)
