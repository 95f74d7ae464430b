use Rattle.vc_total_sets.proofs.OneTotal.{all-one, fresh-listed, moved-listed}
use Rattle.vc_total_sets.proofs.laws.total_operations_make_one.Goals as goal

pub returns-clause-fresh : goal.returns-clause-fresh
returns-clause-fresh g c = all-one g.T.Ord.cmp c.members_tell_the_list.ensures _ (fresh-listed g.T.Ord.cmp _)

pub returns-clause-moved : goal.returns-clause-moved
returns-clause-moved g c = all-one g.T.Ord.cmp c.members_tell_the_list.ensures _ (moved-listed g.T.Ord.cmp)
