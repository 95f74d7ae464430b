use Rattle.vc_merge.specs.Yielded.{by_first, keys-ascend}
use Rattle.vc_merge.proofs.ListLemmas.{pairs-ascend}
use Rattle.vc_sets.proofs.Removing.{ascends-without}
use Rattle.vc_maps.proofs.vec_map.VecMap.pop_first.Goals as goal

pub invariant_of-self : goal.invariant_of-self
invariant_of-self g c = rw c.remove.ensures.items (keys-ascend g.K.Ord.cmp _
    (ascends-without (by_first g.K.Ord.cmp) c.self.inside.pairs.items 0 (pairs-ascend g.K.Ord.cmp _ c.self.invariant)))
