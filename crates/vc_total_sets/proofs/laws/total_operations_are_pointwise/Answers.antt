use Rattle.vc_total_sets.proofs.OneTotal.{all-pointwise, fresh-listed, moved-listed}
use Rattle.vc_total_sets.proofs.laws.total_operations_are_pointwise.Goals as goal

pub returns-clause-fresh : goal.returns-clause-fresh
returns-clause-fresh g c = all-pointwise g.T.Ord.cmp _ (fresh-listed g.T.Ord.cmp _)

pub returns-clause-moved : goal.returns-clause-moved
returns-clause-moved g c = all-pointwise g.T.Ord.cmp _ (moved-listed g.T.Ord.cmp)
