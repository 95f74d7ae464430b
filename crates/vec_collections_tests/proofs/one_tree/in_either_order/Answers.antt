-- Either order binds the same, and canonical trees that bind the same are one tree.
use Rattle.std.proofs.Common.{◌≡◌}
use Rattle.std.specs.Ordering.{nat_cmp}
use Rattle.vec_collections_tests.proofs.Bound.{inserts-alike}
use Rattle.vec_collections_tests.proofs.one_tree.in_either_order.Goals as goal

pub returns : goal.returns
returns c =
    (c.canonical_is_unique.ensures _ _ c.insert-2.ensures.canonical c.insert-4.ensures.canonical).1
    (inserts-alike nat_cmp (λ x y. y ≡ x) (λ x y e. e) _ _ _ _ c.inserts_commute.ensures c.requires.two _ _
    c.requires.alike _ _ _ _ c.in_ok-insert.ensures.ok c.in_ok-insert-2.ensures.ok c.in_ok-insert-3.ensures.ok
    c.in_ok-insert-4.ensures.ok)
