use Rattle.vc_tree_model.specs.Under.{under}
use Rattle.vc_tree_model.proofs.UnderLemmas.{lists-equal_map}
use Rattle.vc_tree_model.proofs.laws.walk_is_filtered.Goals as goal

pub returns : goal.returns
returns g c f h l p = lists-equal_map g.K.Ord.cmp g.M.Matching.matches (under g.K.Ord.cmp f p) h l
