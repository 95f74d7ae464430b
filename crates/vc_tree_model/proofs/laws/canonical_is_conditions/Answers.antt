use Rattle.vc_tree_model.proofs.FourConditions.{canonical-conditions}
use Rattle.vc_tree_model.proofs.laws.canonical_is_conditions.Goals as goal

pub returns : goal.returns
returns g c = canonical-conditions g.K.Ord.cmp
