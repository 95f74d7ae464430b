use Rattle.vc_tree_model.proofs.Covering.{cover-is}
use Rattle.vc_tree_model.proofs.laws.cover_is_longest.Goals as goal

pub returns : goal.returns
returns g c = cover-is g.K.Ord.cmp g.met.K.Ord.total
