use Rattle.std.proofs.Common.{◌∙◌}
use Rattle.vc_maps.proofs.ByForm.{found-value_by, gap-value_by, value-equal}
use Rattle.vc_maps.proofs.vec_map.AbstractVecMap.get_by.Goals as goal

pub returns-in-Ok-clause-value : goal.returns-in-Ok-clause-value
returns-in-Ok-clause-value g c = cc (found-value_by (g.Q.Borrowed.side c.args.sought) c.in-Ok.ensures c.index-pairs-found.result)

pub returns-in-Err-clause-value : goal.returns-in-Err-clause-value
returns-in-Err-clause-value g c = cc (gap-value_by (g.Q.Borrowed.side c.args.sought) c.in-Err.ensures)

-- ---- by a key that is equal to the form

pub returns-in-Ok-clause-equal : goal.returns-in-Ok-clause-equal
returns-in-Ok-clause-equal g c = λ k e. returns-in-Ok-clause-value g c
    ∙ value-equal (g.met.Q.Borrowed.orders_as_equal c.args.sought) g.met.K.Ord.total _ k e

pub returns-in-Err-clause-equal : goal.returns-in-Err-clause-equal
returns-in-Err-clause-equal g c = λ k e. returns-in-Err-clause-value g c
    ∙ value-equal (g.met.Q.Borrowed.orders_as_equal c.args.sought) g.met.K.Ord.total _ k e
