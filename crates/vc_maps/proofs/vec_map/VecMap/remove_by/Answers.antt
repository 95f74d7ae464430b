use Rattle.vc_maps.proofs.ByForm.{found-value_by, gap-value_by, value-equal, found-taken_by, gap-taken_by}
use Rattle.vc_maps.proofs.vec_map.VecMap.remove_by.Goals as goal

-- ---- a known key

pub invariant_of-self : goal.invariant_of-self
invariant_of-self g c = (found-taken_by (g.met.Q.Borrowed.orders_as_equal c.args.sought) g.met.K.Ord.total
    c.as_slice.ensures c.in-Ok.ensures c.self.invariant c.remove-value.ensures.items).ascends

pub returns-in-Ok : goal.returns-in-Ok
returns-in-Ok g c =
    let equal = g.met.Q.Borrowed.orders_as_equal c.args.sought in
    let taken = found-taken_by equal g.met.K.Ord.total c.as_slice.ensures c.in-Ok.ensures c.self.invariant
    c.remove-value.ensures.items in
    let value = found-value_by (g.Q.Borrowed.side c.args.sought) c.in-Ok.ensures c.remove-value.result in
    record {
      old = cc value;
      values = rw (← c.self.view_is) taken.values;
      entries = rw (← c.self.view_is) taken.entries;
      equal = λ k e. cc (value, value-equal equal g.met.K.Ord.total c.args.self.now k e);
    }

-- ---- no pair with an equal key

pub returns-in-Err : goal.returns-in-Err
returns-in-Err g c =
    let equal = g.met.Q.Borrowed.orders_as_equal c.args.sought in
    let taken = gap-taken_by equal g.met.K.Ord.total c.as_slice.ensures c.in-Err.ensures c.self.invariant in
    let none = gap-value_by (g.Q.Borrowed.side c.args.sought) c.in-Err.ensures in
    record {
      old = cc none;
      values = rw (← c.self.view_is) taken.values;
      entries = rw (← c.self.view_is) taken.entries;
      equal = λ k e. cc (none, value-equal equal g.met.K.Ord.total c.args.self.now k e);
    }
