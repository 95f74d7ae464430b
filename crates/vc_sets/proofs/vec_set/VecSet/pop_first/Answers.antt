use Rattle.vc_sets.proofs.Removing.{ascends-without}
use Rattle.vc_sets.proofs.vec_set.VecSet.pop_first.Goals as goal

pub invariant_of-self : goal.invariant_of-self
invariant_of-self g c = rw c.remove.ensures.items (ascends-without g.T.Ord.cmp c.self.inside.elements.items 0 c.self.invariant)
