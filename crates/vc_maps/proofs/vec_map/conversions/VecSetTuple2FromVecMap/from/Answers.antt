use Rattle.std.proofs.Common.{rules}
use Rattle.vc_maps.proofs.PairSets.{ascend-as_pairs}
use Rattle.vc_maps.proofs.vec_map.conversions.VecSetTuple2FromVecMap.from.Goals as goal

pub set_of_list-requires : goal.set_of_list-requires
set_of_list-requires g c = (
  search
      rules,
  (search rules, rw c.into_inner.ensures.pairs (ascend-as_pairs g.K.Ord.cmp g.V.Ord.cmp _ c.into_inner.ensures.ascends)),
)
