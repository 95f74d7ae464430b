use Rattle.vc_merge.proofs.Parted.{on-ok}
use Rattle.vc_maps.proofs.Combined.{right-values}
use Rattle.vc_maps.proofs.vec_map.VecMap.merge_with.Goals as goal

pub returns-clause-values : goal.returns-clause-values
returns-clause-values g c = on-ok c.combine_with.result _ _ (right-values g.K.Ord.cmp _ _ _) c.combine_with.ensures.joins
