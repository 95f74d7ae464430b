use Rattle.std.proofs.Common.{sym, ap, ◌∙◌, Some}
use Rattle.vc_sets.specs.Borrowed.{element_by}
use Rattle.vc_sets.proofs.ByForm.{element-equal}
use Rattle.vc_sets.proofs.Searching.{found-element, gap-element}
use Rattle.vc_sets.proofs.vec_set.AbstractVecSet.get_by.Goals as goal

pub returns-in-Ok-clause-element : goal.returns-in-Ok-clause-element
returns-in-Ok-clause-element g c =
    let side = g.Q.Borrowed.side c.args.sought in
    ap Some c.index-elements-place.is
    ∙ sym (found-element side c.as_slice-elements.result.now c.in-Ok.place c.index-elements-place.result c.in-Ok.ensures)
    ∙ ap (λ l. element_by side l) c.as_slice-elements.ensures.elements

pub returns-in-Ok-clause-equal : goal.returns-in-Ok-clause-equal
returns-in-Ok-clause-equal g c = λ x e. returns-in-Ok-clause-element g c
    ∙ element-equal g.T.Ord.cmp (g.Q.Borrowed.side c.args.sought) (g.met.Q.Borrowed.orders_as_equal c.args.sought)
    (g.Self.AbstractVecSet.elements c.args.self.now) x e

pub returns-in-Err-clause-element : goal.returns-in-Err-clause-element
returns-in-Err-clause-element g c =
    let side = g.Q.Borrowed.side c.args.sought in
    sym (gap-element side c.as_slice-elements.result.now c.in-Err.field-0 c.in-Err.ensures)
    ∙ ap (λ l. element_by side l) c.as_slice-elements.ensures.elements

pub returns-in-Err-clause-equal : goal.returns-in-Err-clause-equal
returns-in-Err-clause-equal g c = λ x e. returns-in-Err-clause-element g c
    ∙ element-equal g.T.Ord.cmp (g.Q.Borrowed.side c.args.sought) (g.met.Q.Borrowed.orders_as_equal c.args.sought)
    (g.Self.AbstractVecSet.elements c.args.self.now) x e
