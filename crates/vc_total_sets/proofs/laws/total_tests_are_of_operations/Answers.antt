use Rattle.vc_total_sets.proofs.OneTotal.{tests-are_of, fresh-listed, moved-listed}
use Rattle.vc_total_sets.proofs.laws.total_tests_are_of_operations.Goals as goal

pub returns-clause-fresh : goal.returns-clause-fresh
returns-clause-fresh g c = tests-are_of g.T.Ord.cmp g.met.T.Ord.total _ (fresh-listed g.T.Ord.cmp _)

pub returns-clause-moved : goal.returns-clause-moved
returns-clause-moved g c = tests-are_of g.T.Ord.cmp g.met.T.Ord.total _ (moved-listed g.T.Ord.cmp)
