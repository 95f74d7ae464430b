use Rattle.vc_merge.specs.Yielded.{front_keys_ascend}
use Rattle.vc_maps.proofs.vec_map.VecMap.pop_last.Goals as goal

pub invariant_of-self : goal.invariant_of-self
invariant_of-self g c = front_keys_ascend g.K.Ord.cmp _ _
    (rw c.pop.ensures.items at c.self.invariant)
