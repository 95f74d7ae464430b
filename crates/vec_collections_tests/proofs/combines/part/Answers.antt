-- Each of the two trees is made of a clone of the ports, which is the same tree; and the law parts what that binds.
use Rattle.std.proofs.Common.{◌≡◌, refl, arith, rules}
use Rattle.std.specs.Ordering.{nat_cmp}
use Rattle.vec_collections.specs.Exact.{alike-exact}
use Rattle.vec_collections.specs.Map.{lookup}
use Rattle.vec_collections_tests.proofs.Bound.{parts-clones, removed-clone}
use Rattle.vec_collections_tests.proofs.combines.part.Goals as goal

-- a node is small
pub clone-requires-2 : goal.clone-requires-2
clone-requires-2 c = omega arith

-- the test has no condition
pub retain_prefix_with-requires : goal.retain_prefix_with-requires
retain_prefix_with-requires c = search rules

-- the trees in the variables are themselves
pub same-left : goal.same-left
same-left c = refl

pub same-kept : goal.same-kept
same-kept c = refl

pub returns-clause-open : goal.returns-clause-open
returns-clause-open c =
    removed-clone nat_cmp (λ b. b) (λ w b m. search rules) (lookup nat_cmp c.args.closed.now) c.args.ports.now c.in_ok-left.left
    c.remove_prefix_with.new.self
    (alike-exact (λ x y. y ≡ x) (λ x y e. e) c.args.ports.now c.in_ok-left.left c.in_ok-left.ensures.alike)
    c.in_ok-remove_prefix_with.ensures.ok

pub returns-clause-parts : goal.returns-clause-parts
returns-clause-parts c =
    let ports = c.args.ports.now in
    let first = c.in_ok-left.left in
    let second = c.in_ok-kept.kept in
    parts-clones nat_cmp (λ b. b) (λ w b m. search rules) (lookup nat_cmp c.args.closed.now) ports first second
    c.remove_prefix_with.new.self c.retain_prefix_with.new.self c.removal_and_retention_part.ensures
    (alike-exact (λ x y. y ≡ x) (λ x y e. e) ports first c.in_ok-left.ensures.alike)
    (alike-exact (λ x y. y ≡ x) (λ x y e. e) ports second c.in_ok-kept.ensures.alike)
    c.in_ok-remove_prefix_with.ensures.ok c.in_ok-retain_prefix_with.ensures.ok
