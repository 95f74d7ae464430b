-- The child that begins as what is left of the path does has the keys that are left.
use Rattle.std.proofs.Common.{◌≡◌, None, Some, ◌∙◌, drop, subst, sym}
use Rattle.std.specs.Prelude.{slice_get}
use Rattle.vc_tree_model.specs.Canonical.{AreChildren}
use Rattle.vc_tree_nodes.specs.Places.{IsFoundChild, IsNoChild}
use Rattle.vc_tree_walks.proofs.PathKeys.{along-child, along-childless, along-empty}
use Rattle.vc_tree_walks.proofs.prefixes.Prefixes.go_below.Goals as goal

pub returns-in_default-clause-left : goal.returns-in_default-clause-left
returns-in_default-clause-left g c =
    let s = c.args.self.now in
    along-empty g.K.Ord.cmp (g.T.RadixNode.tree c.args.node.now).children c.canonical.ensures.1 s.used (drop s.used s.path.now)
    (subst (λ l. slice_get l 0 ≡ None) c.split_at.ensures.back (sym c.in_default.ensures.value))

pub child_at-requires : goal.child_at-requires
child_at-requires g c = subst (AreChildren g.K.Ord.cmp) (sym c.children.ensures) c.canonical.ensures.1

pub returns-in-Some-child_at-clause-left : goal.returns-in-Some-child_at-clause-left
returns-in-Some-child_at-clause-left g c =
    let s = c.args.self.now in
    let x = c.in-Some.first.now in
    let child = g.T.RadixNode.tree c.in-Some-child_at.child.now in
    c.enter.ensures.left
    ∙ along-child g.K.Ord.cmp (g.T.RadixNode.tree c.args.node.now).children c.canonical.ensures.1 s.used x
    (drop s.used s.path.now) child
    (subst (λ l. slice_get l 0 ≡ Some x) c.split_at.ensures.back (sym c.in-Some.ensures.value))
    (subst (λ f. IsFoundChild g.K.Ord.cmp f x child) c.children.ensures c.in-Some-child_at.ensures.child)

pub returns-in_default-child_at-clause-left : goal.returns-in_default-child_at-clause-left
returns-in_default-child_at-clause-left g c =
    let s = c.args.self.now in
    let x = c.in-Some.first.now in
    along-childless g.K.Ord.cmp (g.T.RadixNode.tree c.args.node.now).children c.canonical.ensures.1 s.used x
    (drop s.used s.path.now)
    (subst (λ l. slice_get l 0 ≡ Some x) c.split_at.ensures.back (sym c.in-Some.ensures.value))
    (subst (λ f. IsNoChild g.K.Ord.cmp f x) c.children.ensures c.in_default-child_at.ensures.child)
