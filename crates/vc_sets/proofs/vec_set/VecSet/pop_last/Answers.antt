use Rattle.std.proofs.Common.{subst}
use Rattle.vc_merge.specs.Ascending.{Ascends}
use Rattle.vc_sets.proofs.Editing.{ascends-front}
use Rattle.vc_sets.proofs.vec_set.VecSet.pop_last.Goals as goal

pub invariant_of-self : goal.invariant_of-self
invariant_of-self g c =
    ascends-front g.T.Ord.cmp g.met.T.Ord.total _ _ (subst (λ l. Ascends g.T.Ord.cmp l) c.pop.ensures.items c.self.invariant)
