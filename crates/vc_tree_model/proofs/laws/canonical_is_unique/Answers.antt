use Rattle.vc_tree_model.proofs.Uniqueness.{canonical-unique}
use Rattle.vc_tree_model.proofs.laws.canonical_is_unique.Goals as goal

pub returns : goal.returns
returns g c = canonical-unique g.K.Ord.cmp g.met.K.Ord.total g.M.Matching.matches
