-- The clone of a canonical tree is canonical.
use Rattle.std.proofs.Common.{◌≡◌, ◌∙◌, subst, sym}
use Rattle.vc_tree_model.specs.Value.{IsKept}
use Rattle.vc_tree_model.proofs.AlikeLemmas.{snapshot-canonical}
use Rattle.vc_tree_nodes.specs.Body.{body_value, body_children}
use Rattle.vc_tree_nodes.proofs.shared.ArcRadixTree.snapshot.Goals as goal

pub invariant_of-copy : goal.invariant_of-copy
invariant_of-copy g c =
    let value = rw c.value.ensures at c.in_ok-value.ensures in
    let children = rw c.children.ensures at c.in_ok-children.ensures in
    snapshot-canonical g.V.Clone.is_clone (λ r. r.value) (λ x. x.items) g.K.Ord.cmp c.self.inside.prefix
    c.in_ok-prefix.prefix (body_value c.self.inside.body) (body_value c.of.result) (body_children c.self.inside.body)
    (body_children c.of.result) (c.in_ok-prefix.ensures.items ∙ c.as_slice.ensures)
    (subst (IsKept g.V.Clone.is_clone (body_value c.self.inside.body)) (sym c.of.ensures.value) value)
    (subst (IsKept (λ a b. b.value ≡ a.value) (body_children c.self.inside.body)) (sym c.of.ensures.children) children)
    c.self.invariant
