use Rattle.std.specs.List.Sorted.{IsStrictlySortedBy}
use Rattle.vc_sets.proofs.vec_set.VecSet.clear.Goals as goal

pub invariant_of-self : goal.invariant_of-self
unfolding IsStrictlySortedBy
invariant_of-self g c = rw c.clear.ensures.items tt
