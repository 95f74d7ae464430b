-- Runs from equal maps lead to equal maps, and canonical trees that bind the same are one tree.
use Rattle.std.proofs.Common.{◌≡◌}
use Rattle.std.specs.Ordering.{nat_cmp}
use Rattle.vec_collections_tests.proofs.Bound.{runs-alike}
use Rattle.vec_collections_tests.proofs.one_tree.run_on_both.Goals as goal

pub returns : goal.returns
returns c = λ accepted.
    (c.canonical_is_unique.ensures _ _ c.run.ensures.canonical c.run-2.ensures.canonical).1
    (runs-alike nat_cmp (λ x y. y ≡ x) (λ x y e. e) _ _ _ _ c.run_is_function.ensures c.requires.alike
    c.requires.changes accepted c.run.ensures.steps c.run-2.ensures.steps)
