use Rattle.vc_tree_model.proofs.Binding.{ordered-binds}
use Rattle.vc_tree_model.proofs.LookupLemmas.{lookup-same}
use Rattle.vc_tree_model.proofs.laws.binds_is_lookup.Goals as goal

pub returns-clause-agree : goal.returns-clause-agree
returns-clause-agree g c = ordered-binds g.K.Ord.cmp g.met.K.Ord.total

pub returns-clause-map : goal.returns-clause-map
returns-clause-map g c = lookup-same g.K.Ord.cmp g.met.K.Ord.total
