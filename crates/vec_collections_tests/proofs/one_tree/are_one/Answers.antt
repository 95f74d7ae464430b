-- The test is of maps, numbers are equal where they are one, and canonical trees that bind the same are one tree.
use Rattle.vec_collections_tests.proofs.Bound.{told, tested}
use Rattle.vec_collections_tests.proofs.one_tree.are_one.Goals as goal

pub returns-clause-alike : goal.returns-clause-alike
returns-clause-alike c = (λ e k. told _ _ (c.eq.ensures.maps.0 e k), λ h. c.eq.ensures.maps.1 (λ k. tested _ _ (h k)))

pub returns-clause-one : goal.returns-clause-one
returns-clause-one c =
    let one = c.canonical_is_unique.ensures _ _ c.prefix.ensures.canonical c.prefix-2.ensures.canonical in
    (λ e. one.1 (λ k. told _ _ (c.eq.ensures.maps.0 e k)), λ s. c.eq.ensures.maps.1 (λ k. tested _ _ (one.0 s k)))
