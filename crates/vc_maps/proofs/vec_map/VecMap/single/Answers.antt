use Rattle.std.specs.List.Sorted.{IsStrictlySortedBy}
use Rattle.vc_maps.proofs.vec_map.VecMap.single.Goals as goal

pub invariant_of-result : goal.invariant_of-result
unfolding IsStrictlySortedBy
invariant_of-result g c = rw (c.in_ok-push.ensures.ok, c.new-pairs.ensures.items) (tt, tt)
