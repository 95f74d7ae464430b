-- The laws of the definitions of this crate, as the functions of `laws` carry them.
use Rattle.std.specs.Prelude.{◌≡◌, ◌↔◌, Bool, ◌||◌, ◌&&◌, List, [], Some, None, IsTrue, IsSomeAnd, ◌⊎◌}
use Rattle.std.specs.List.{AllZip}
use Rattle.std.specs.declared.cmp.Ordering.{Ordering}
use Rattle.std.specs.declared.cmp.Ordering.TheVariants.{Equal}
use Rattle.vc_merge.specs.Ascending.{Ascends, member, element_at}
use Rattle.vc_sets.specs.SetOf.{IsSetOf, and_not, exactly_one}
use Rattle.vc_sets.specs.Tests.{IsDisjoint, IsSubset}

module _ {X : Type 0} (cmp : X → X → Ordering) where
  -- an operation that takes the elements themselves has one result
  abbrev pub SetOfIsOne : Type 0
  SetOfIsOne =
      (f : Bool → Bool → Bool) (a b c d : List X) → IsSetOf cmp (λ x z. x ≡ z) (λ y z. y ≡ z) f a b c
      → IsSetOf cmp (λ x z. x ≡ z) (λ y z. y ≡ z) f a b d → c ≡ d

  module _ (from_left from_right : X → X → Type 0) where
    -- the result of an operation is unique up to equality, element by element
    abbrev pub SetOfIsOneUpToEqual : Type 0
    SetOfIsOneUpToEqual =
        (f : Bool → Bool → Bool) (a b c d : List X) → IsSetOf cmp from_left from_right f a b c
        → IsSetOf cmp from_left from_right f a b d → AllZip (λ x y. cmp x y ≡ Equal) c d

    -- the members of what the four operations make
    pub record OperationsInWords : Type 0 where
      pub union : (a b c : List X) → IsSetOf cmp from_left from_right ◌||◌ a b c → (x : X)
          → IsTrue (member cmp c x) ↔ (IsTrue (member cmp a x) ⊎ IsTrue (member cmp b x))
      pub intersection : (a b c : List X) → IsSetOf cmp from_left from_right ◌&&◌ a b c → (x : X)
          → IsTrue (member cmp c x) ↔ (IsTrue (member cmp a x) × IsTrue (member cmp b x))
      pub difference : (a b c : List X) → IsSetOf cmp from_left from_right and_not a b c → (x : X)
          → IsTrue (member cmp c x) ↔ (IsTrue (member cmp a x) × (IsTrue (member cmp b x) → ⊥))
      pub symmetric_difference : (a b c : List X) → IsSetOf cmp from_left from_right exactly_one a b c → (x : X)
          → IsTrue (member cmp c x)
          ↔ ((IsTrue (member cmp a x) × (IsTrue (member cmp b x) → ⊥))
          ⊎ ((IsTrue (member cmp a x) → ⊥) × IsTrue (member cmp b x)))

    -- what a union keeps of equal elements: the left one where there is one, and otherwise the
    -- right one
    pub record UnionKeepsTheLeft : Type 0 where
      pub left : (a b c : List X) → IsSetOf cmp from_left from_right ◌||◌ a b c → (x y : X)
          → element_at cmp a x ≡ Some y → IsSomeAnd (element_at cmp c x) (from_left y)
      pub right : (a b c : List X) → IsSetOf cmp from_left from_right ◌||◌ a b c → (x y : X)
          → element_at cmp a x ≡ None → element_at cmp b x ≡ Some y → IsSomeAnd (element_at cmp c x) (from_right y)

    -- sets are disjoint where nothing is in their intersection, and one is a subset where nothing is in the difference, and where
    -- the union equals the other one
    pub record TestsAreOfOperations : Type 0 where
      pub disjoint : (a b c : List X) → IsSetOf cmp from_left from_right ◌&&◌ a b c → IsDisjoint cmp a b ↔ (c ≡ [])
      pub subset : (a b c : List X) → IsSetOf cmp from_left from_right and_not a b c → IsSubset cmp a b ↔ (c ≡ [])
      pub subset_by_union : (a b c : List X) → Ascends cmp b → IsSetOf cmp from_left from_right ◌||◌ a b c
          → IsSubset cmp a b ↔ AllZip (λ x y. cmp x y ≡ Equal) c b

-- a law of each way in which calls take elements: fresh calls clone both sides; calls in place keep the left ones, and clone or
-- move the right ones
pub record InEachWay {X : Type 0} (is_clone : X → X → Type 0) (Law : (X → X → Type 0) → (X → X → Type 0) → Type 0) : Type 0 where
  pub fresh : Law is_clone is_clone
  pub in_place : Law (λ x z. x ≡ z) is_clone
  pub moved : Law (λ x z. x ≡ z) (λ y z. y ≡ z)
