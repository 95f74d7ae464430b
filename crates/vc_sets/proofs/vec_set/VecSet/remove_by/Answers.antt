use Rattle.std.proofs.Common.{ap, ◌∙◌, Ok, Err, cond, None}
use Rattle.std.specs.Ordering.{is_eq}
use Rattle.vc_merge.specs.Ascending.{element_at}
use Rattle.vc_sets.proofs.ByForm.{member-equal, element_at-without_form, element_at-no_form}
use Rattle.vc_sets.proofs.Removing.{ascends-without, members-taken}
use Rattle.vc_sets.proofs.Searching.{place-is_ok}
use Rattle.vc_sets.proofs.vec_set.VecSet.remove_by.Goals as goal

-- ---- an equal element was found

pub invariant_of-self : goal.invariant_of-self
invariant_of-self g c = rw c.remove.ensures.items
    (ascends-without g.T.Ord.cmp c.self.inside.elements.items c.in-Ok.index c.self.invariant)

pub returns-in-Ok : goal.returns-in-Ok
returns-in-Ok g c =
    let side = g.Q.Borrowed.side c.args.sought in
    let orders = g.met.Q.Borrowed.orders_as_equal c.args.sought in
    let p = rw c.as_slice.ensures at c.in-Ok.ensures in
    let found = rw (c.as_slice.ensures, c.self.view_is) at (place-is_ok side c.as_slice.result.now (Ok c.in-Ok.index) c.in-Ok.ensures) in
    let without = λ (z : g.row.T.Denot). ap (λ l. element_at g.T.Ord.cmp l z) c.remove.ensures.items
    ∙ element_at-without_form g.T.Ord.cmp side orders g.met.T.Ord.total c.self.inside.elements.items c.in-Ok.index p
    c.self.invariant z ∙ ap (λ l. cond (is_eq (side z)) None (element_at g.T.Ord.cmp l z)) c.self.view_is in
    record {
      answer = found;
      members = members-taken g.T.Ord.cmp g.met.T.Ord.total c.args.self.now c.remove.new.self.items
          (λ z. is_eq (side z)) without;
      kept = without;
      equal = λ x e. found ∙ member-equal g.T.Ord.cmp side orders c.args.self.now x e;
    }

-- ---- no equal element was found

pub returns-in-Err : goal.returns-in-Err
returns-in-Err g c =
    let side = g.Q.Borrowed.side c.args.sought in
    let orders = g.met.Q.Borrowed.orders_as_equal c.args.sought in
    let p = rw (c.as_slice.ensures, c.self.view_is) at c.in-Err.ensures in
    let none = rw (c.as_slice.ensures, c.self.view_is) at (place-is_ok side c.as_slice.result.now (Err c.in-Err.field-0) c.in-Err.ensures) in
    let without = element_at-no_form g.T.Ord.cmp side orders c.args.self.now c.in-Err.field-0 p in
    record {
      answer = none;
      members = members-taken g.T.Ord.cmp g.met.T.Ord.total c.args.self.now c.args.self.now (λ z. is_eq (side z)) without;
      kept = without;
      equal = λ x e. none ∙ member-equal g.T.Ord.cmp side orders c.args.self.now x e;
    }
