-- The law, of clones that are equal to the sets.
use Rattle.std.proofs.Common.{◌≡◌, ℕ, List, [], ◌∷◌, rules}
use Rattle.std.specs.List.{AllZip}
use Rattle.std.specs.Ordering.{nat_cmp}
use Rattle.std.specs.declared.cmp.Ordering.TheVariants.{Equal}
use Rattle.vec_collections_tests.proofs.sets.not_in_both.Goals as goal

-- a number ties with itself
tied : (x : ℕ) → nat_cmp x x ≡ Equal
tied x = search rules

-- two clones of a list tie
clones-tied : (xs ys zs : List ℕ) → AllZip (λ x y. y ≡ x) xs ys → AllZip (λ x y. y ≡ x) xs zs
    → AllZip (λ x y. nat_cmp x y ≡ Equal) zs ys
clones-tied [] [] [] h k = tt
clones-tied (x ∷ xs) (y ∷ ys) (z ∷ zs) h k = (rw (h.0, k.0) (tied x), clones-tied xs ys zs h.1 k.1)
clones-tied [] (y ∷ ys) zs h k = absurd h
clones-tied [] [] (z ∷ zs) h k = absurd k
clones-tied (x ∷ xs) [] zs h k = absurd h
clones-tied (x ∷ xs) (y ∷ ys) [] h k = absurd k

pub returns : goal.returns
returns c =
    rw c.not-2.ensures
    (c.complements_turn_operations.ensures.moved.and c.in_ok-both.both c.in_ok-clone.field-0 c.not-either.result c.not.result
    c.bitand_assign.new.self c.bitor_assign.new.self
    (rw c.not-either.ensures (record {
      elements = clones-tied _ _ _ c.in_ok-both.ensures.elements c.in_ok-clone-2.ensures.elements;
      negated = search rules;
    }))
    (rw c.not.ensures (record {
      elements = clones-tied _ _ _ c.in_ok-clone.ensures.elements c.in_ok-clone-3.ensures.elements;
      negated = search rules;
    }))
    c.in_ok-bitand_assign.ensures.and c.in_ok-bitor_assign.ensures.or)
