-- The pairs that came so far are in the map.
use Rattle.vc_maps.specs.Collecting.{IsExtended}
use Rattle.vc_maps.proofs.vec_map.collecting.VecMapExtendTuple2.extend.Given as goal

abbrev pub invariant-loop-pair : goal.invariant-loop-pair
invariant-loop-pair g l = IsExtended g.K.Ord.cmp l.fn.self l.yielded l.self
