use Rattle.std.proofs.Common.{refl}
use Rattle.vc_merge.proofs.Extending.{extends-same}
use Rattle.vc_merge.proofs.parts.PartsStateMergeStateMut.advance_a.Goals as goal

pub returns-then-take-clause-gives : goal.returns-then-take-clause-gives
returns-then-take-clause-gives g c =
    rw c.if-take.true (refl, (refl, c.take_left.ensures.name, extends-same _ _ _ c.take_left.ensures.built))
