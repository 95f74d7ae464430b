use Rattle.vc_tree_model.proofs.Shallowness.{canonical-shallow}
use Rattle.vc_tree_model.proofs.laws.canonical_is_shallow.Goals as goal

pub returns : goal.returns
returns g c = canonical-shallow g.K.Ord.cmp g.met.K.Ord.total
