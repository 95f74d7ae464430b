use Rattle.vc_tree_model.proofs.LookupLemmas.{children-ordered}
use Rattle.vc_tree_model.proofs.Walking.{walk-is}
use Rattle.vc_tree_model.proofs.OneWalk.{one-walk, walk-length}
use Rattle.vc_tree_model.proofs.laws.walk_is_one.Goals as goal

pub returns-clause-lists : goal.returns-clause-lists
returns-clause-lists g c t canonical =
    let cmp = g.K.Ord.cmp in walk-is cmp g.met.K.Ord.total t (children-ordered cmp t.children canonical.1)

pub returns-clause-one : goal.returns-clause-one
returns-clause-one g c = one-walk g.K.Ord.cmp g.met.K.Ord.total

pub returns-clause-count : goal.returns-clause-count
returns-clause-count g c t canonical =
    let cmp = g.K.Ord.cmp in walk-length cmp g.met.K.Ord.total t (children-ordered cmp t.children canonical.1)
