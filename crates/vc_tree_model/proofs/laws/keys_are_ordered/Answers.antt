use Rattle.vc_tree_model.proofs.KeyLemmas.{keys-ordered}
use Rattle.vc_tree_model.proofs.laws.keys_are_ordered.Goals as goal

pub returns : goal.returns
returns g c = keys-ordered g.K.Ord.cmp g.met.K.Ord.total
