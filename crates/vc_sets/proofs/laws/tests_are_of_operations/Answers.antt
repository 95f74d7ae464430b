use Rattle.vc_sets.proofs.OneSet.{in-each_way, tests-are_of_operations}
use Rattle.vc_sets.proofs.laws.tests_are_of_operations.Goals as goal

pub returns : goal.returns
returns g c = in-each_way g.T.Clone.is_clone _ (tests-are_of_operations g.T.Ord.cmp g.met.T.Ord.total)
