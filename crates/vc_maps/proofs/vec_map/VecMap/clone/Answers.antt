use Rattle.std.proofs.Common.{◌∙◌}
use Rattle.vc_merge.proofs.Clones.{clone-equal, clones-ascend}
use Rattle.vc_maps.proofs.Retaining.{keys-cloned}
use Rattle.vc_maps.proofs.vec_map.VecMap.clone.Goals as goal

pub invariant_of-result : goal.invariant_of-result
invariant_of-result g c =
    clones-ascend g.K.Ord.cmp g.met.K.Ord.total g.K.Clone.is_clone
    (clone-equal g.K.Ord.cmp g.met.K.Ord.total g.K.Clone.is_clone c.requires) _ _
    (keys-cloned g.K.Clone.is_clone g.V.Clone.is_clone _ _ (rw c.as_slice.ensures at c.in_ok-pairs.ensures)) c.self.invariant

pub returns : goal.returns
returns g c = rw (c.as_slice.ensures ∙ c.self.view_is) at c.in_ok-pairs.ensures
