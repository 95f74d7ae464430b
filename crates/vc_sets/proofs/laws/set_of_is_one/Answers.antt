use Rattle.vc_sets.proofs.OneSet.{in-each_way, set-of_is_one, set-of_is_one_up_to_equal}
use Rattle.vc_sets.proofs.laws.set_of_is_one.Goals as goal

pub returns-clause-same : goal.returns-clause-same
returns-clause-same g c = set-of_is_one g.T.Ord.cmp g.met.T.Ord.total

pub returns-clause-equal : goal.returns-clause-equal
returns-clause-equal g c = in-each_way g.T.Clone.is_clone _ (set-of_is_one_up_to_equal g.T.Ord.cmp g.met.T.Ord.total)
