use Rattle.std.proofs.Common.{is_some, ap, ◌∙◌}
use Rattle.vc_maps.proofs.ByForm.{place-has_value_by, value-equal}
use Rattle.vc_maps.proofs.vec_map.AbstractVecMap.contains_key_by.Goals as goal

pub returns-clause-answer : goal.returns-clause-answer
returns-clause-answer g c =
    cc (place-has_value_by (g.Q.Borrowed.side c.args.sought) c.as_slice.result.now c.find_key_by.result c.find_key_by.ensures)

pub returns-clause-equal : goal.returns-clause-equal
returns-clause-equal g c = λ k e. returns-clause-answer g c
    ∙ ap is_some (value-equal (g.met.Q.Borrowed.orders_as_equal c.args.sought) g.met.K.Ord.total _ k e)
