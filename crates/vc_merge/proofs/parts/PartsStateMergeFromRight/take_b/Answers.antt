use Rattle.std.proofs.Common.{refl}
use Rattle.vc_merge.proofs.Extending.{extends-same}
use Rattle.vc_merge.proofs.parts.PartsStateMergeFromRight.take_b.Goals as goal

pub returns-clause-gives : goal.returns-clause-gives
returns-clause-gives g c = (refl, (refl, c.take_right.ensures.name, extends-same _ _ _ c.take_right.ensures.built))
