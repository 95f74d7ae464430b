use Rattle.vc_tree_model.proofs.UnderLemmas.{walk-under, walk-prefixed}
use Rattle.vc_tree_model.proofs.laws.walks_by_prefix.Goals as goal

pub returns-clause-under : goal.returns-clause-under
returns-clause-under g c f l p = walk-under g.K.Ord.cmp g.met.K.Ord.total f l p

pub returns-clause-prefixed : goal.returns-clause-prefixed
returns-clause-prefixed g c f l p = walk-prefixed g.K.Ord.cmp g.met.K.Ord.total f l p
