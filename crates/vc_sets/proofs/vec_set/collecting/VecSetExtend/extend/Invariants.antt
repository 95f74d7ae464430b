-- The items that came so far are in the set.
use Rattle.vc_sets.specs.Collecting.{IsExtended}
use Rattle.vc_sets.proofs.vec_set.collecting.VecSetExtend.extend.Given as goal

abbrev pub invariant-loop-item : goal.invariant-loop-item
invariant-loop-item g l = IsExtended g.T.Ord.cmp l.fn.self l.yielded l.self
