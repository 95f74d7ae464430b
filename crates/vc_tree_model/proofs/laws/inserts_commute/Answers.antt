use Rattle.vc_tree_model.proofs.Inserting.{inserts-commute}
use Rattle.vc_tree_model.proofs.laws.inserts_commute.Goals as goal

pub returns : goal.returns
returns g c = inserts-commute g.K.Ord.cmp g.met.K.Ord.total
