use Rattle.vc_tree_model.proofs.KeyLemmas.{left-is_rest}
use Rattle.vc_tree_model.proofs.laws.left_behind_is_rest.Goals as goal

pub returns : goal.returns
returns g c = left-is_rest g.K.Ord.cmp g.met.K.Ord.total
