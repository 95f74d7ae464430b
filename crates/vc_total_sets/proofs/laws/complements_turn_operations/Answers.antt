use Rattle.vc_total_sets.proofs.OneTotal.{complements-turn, fresh-listed, moved-listed}
use Rattle.vc_total_sets.proofs.laws.complements_turn_operations.Goals as goal

pub returns-clause-fresh : goal.returns-clause-fresh
returns-clause-fresh g c = complements-turn g.T.Ord.cmp g.met.T.Ord.total c.members_tell_the_list.ensures _
    (fresh-listed g.T.Ord.cmp _)

pub returns-clause-moved : goal.returns-clause-moved
returns-clause-moved g c = complements-turn g.T.Ord.cmp g.met.T.Ord.total c.members_tell_the_list.ensures _
    (moved-listed g.T.Ord.cmp)
