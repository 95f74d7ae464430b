use Rattle.std.proofs.Common.{refl, sym, ◌∙◌}
use Rattle.vc_maps.proofs.ByForm.{gap-value_by, value-equal}
use Rattle.vc_maps.proofs.WrittenBy.{found-at_form, unwritten-by, written-by}
use Rattle.vc_maps.proofs.vec_map.VecMap.get_mut_by.Goals as goal

pub invariant_of-self-lent : goal.invariant_of-self-lent
invariant_of-self-lent g c w =
    let found = rw c.as_slice.ensures at c.in-Ok.ensures in
    let equal = g.met.Q.Borrowed.orders_as_equal c.args.sought in
    rw (written-by equal g.met.K.Ord.total found c.in-Some.ensures.value w).keys c.self.invariant

pub returns-in-Some : goal.returns-in-Some
returns-in-Some g c =
    let found = rw c.as_slice.ensures at c.in-Ok.ensures in
    let equal = g.met.Q.Borrowed.orders_as_equal c.args.sought in
    let value = found-at_form (g.Q.Borrowed.side c.args.sought) found c.in-Some.ensures.value in (
      (refl, (λ w. rw (← c.self.view_is) (written-by equal g.met.K.Ord.total found c.in-Some.ensures.value w)), refl),
      record {
        writes_back = tt;
        value = rw (← c.self.view_is) value;
        equal = λ k e. rw (← c.self.view_is) (value ∙ value-equal equal g.met.K.Ord.total _ k e);
      },
    )

pub returns-in-Err : goal.returns-in-Err
returns-in-Err g c =
    let gap = rw c.as_slice.ensures at c.in-Err.ensures in
    let equal = g.met.Q.Borrowed.orders_as_equal c.args.sought in
    let none = sym (gap-value_by (g.Q.Borrowed.side c.args.sought) gap) in (
      (refl, (λ w. rw (← c.self.view_is) (unwritten-by equal g.met.K.Ord.total gap w)), c.self.view_is),
      record {
        writes_back = tt;
        value = rw (← c.self.view_is) none;
        equal = λ k e. rw (← c.self.view_is) (none ∙ value-equal equal g.met.K.Ord.total _ k e);
      },
    )
