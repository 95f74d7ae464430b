use Rattle.std.proofs.Common.{ap, ◌∙◌}
use Rattle.vc_sets.specs.Borrowed.{member_by}
use Rattle.vc_sets.proofs.ByForm.{member-equal}
use Rattle.vc_sets.proofs.Searching.{place-is_ok}
use Rattle.vc_sets.proofs.vec_set.AbstractVecSet.contains_by.Goals as goal

pub returns-clause-answer : goal.returns-clause-answer
returns-clause-answer g c =
    c.is_ok.ensures.value ∙ place-is_ok (g.Q.Borrowed.side c.args.sought) c.as_slice.result.now c.find_by.result c.find_by.ensures
    ∙ ap (λ l. member_by (g.Q.Borrowed.side c.args.sought) l) c.as_slice.ensures.elements

pub returns-clause-equal : goal.returns-clause-equal
returns-clause-equal g c = λ x e. returns-clause-answer g c
    ∙ member-equal g.T.Ord.cmp (g.Q.Borrowed.side c.args.sought) (g.met.Q.Borrowed.orders_as_equal c.args.sought)
    (g.Self.AbstractVecSet.elements c.args.self.now) x e
