-- A refused change leaves what was bound, and canonical trees that bind the same are one tree.
use Rattle.std.proofs.Common.{◌≡◌}
use Rattle.std.specs.Ordering.{nat_cmp}
use Rattle.vec_collections.specs.Exact.{equal_maps-exact}
use Rattle.vec_collections_tests.proofs.Bound.{on-refused}
use Rattle.vec_collections_tests.proofs.one_tree.set_or_before.Goals as goal

pub returns : goal.returns
returns c =
    let before = c.args.ports.now in
    let left = c.insert.new.self in
    on-refused c.insert.result
    (λ h. (c.canonical_is_unique.ensures before left c.prefix.ensures.canonical c.insert.ensures.canonical).1
    (equal_maps-exact (λ x y. y ≡ x) (λ x y e. e) nat_cmp before left h))
    c.insert.ensures.err
