-- Worked rows of the definitions on sets.
use Rattle.std.specs.Prelude.{◌≡◌, ℕ, suc, nat_le, Bool, true, false, not, ◌||◌, ◌&&◌, List, [], ◌∷◌, Some, None, refl}
use Rattle.std.proofs.Common.{sym, ap, arith}
use Rattle.std.specs.List.Sorted.{IsStrictlySortedBy}
use Rattle.std.specs.Ordering.{nat_cmp}
use Rattle.std.specs.declared.cmp.Ordering.{Ordering}
use Rattle.std.specs.declared.cmp.Ordering.TheVariants.{Less, Greater}
use Rattle.vc_merge.specs.Ascending.{Ascends, member, element_at}
use Rattle.vc_merge.specs.Clones.{ClonesAreEqual}
use Rattle.vc_sets.specs.Borrowed.{member_by, element_by, option_side}
use Rattle.std.specs.Map.Iter.{TakesFirst}
use Rattle.vc_sets.specs.Collecting.{GivesMoreThan, IsCollected, IsExtended}
use Rattle.vc_sets.specs.SetOf.{Keeps, IsSetOf, and_not, exactly_one}
use Rattle.vc_sets.specs.Tests.{IsDisjoint, IsSubset}
use Rattle.vc_sets.specs.Algebra.{made_by, IsTestedBy}
use Rattle.vc_merge.specs.Retaining.{IsRetained, AnswersAs}
use Rattle.vc_sets.specs.declared.vec_set.algebra.SetOp.TheVariants.{Difference, SymmetricDifference}
use Rattle.vc_sets.specs.declared.vec_set.algebra.SetTest.TheVariants.{Superset}
use Rattle.definition_tests.proofs.Digits.{Digit, one, two, three, five, order, each, same, not_true, not_equal}

-- no element is taken
abbrev never : {X : Type 0} → X → X → Type 0
never x y = ⊥

-- 1 3 5 ascends
ascends : Ascends nat_cmp (1 ∷ 3 ∷ 5 ∷ [])
unfolding IsStrictlySortedBy
ascends = ((refl, (refl, tt)), ((refl, tt), (tt, tt)))

-- 1 1 does not
does_not_ascend : Ascends order (one ∷ one ∷ []) → ⊥
unfolding IsStrictlySortedBy
does_not_ascend h = not_equal (sym h.0.0)

-- a number is equal to its clone, which is the number again
clones_are_equal : ClonesAreEqual nat_cmp same
clones_are_equal x y e z = ap (λ n. nat_cmp n z) e

-- of elements whose clones have the next number, and which compare by their numbers, clones are not equal
numbered_clones : ClonesAreEqual nat_cmp (λ x y. y ≡ suc x) → ⊥
numbered_clones h = not_equal (h 0 1 refl 1)

-- at 3 the union of 1 3 and 3 5 keeps the left 3
union_keeps_left : Keeps {X = ℕ} ◌||◌ same never (Some 3) (Some 3) (Some 3)
union_keeps_left = refl

-- and not the right one
right_is_not_kept : Keeps {X = ℕ} ◌||◌ never same (Some 3) (Some 3) (Some 3) → ⊥
right_is_not_kept h = h

-- the union of 1 3 and 3 5 is 1 3 5
is_union : IsSetOf order same same ◌||◌ (one ∷ three ∷ []) (three ∷ five ∷ []) (one ∷ three ∷ five ∷ [])
unfolding IsStrictlySortedBy
is_union = record {
  ascends = ((refl, (refl, tt)), ((refl, tt), (tt, tt)));
  members =
      each _ refl refl refl refl refl;
  kept = each _ refl refl refl refl refl;
}

-- 1 3 without 3 5 is 1
is_difference : IsSetOf order same same and_not (one ∷ three ∷ []) (three ∷ five ∷ []) (one ∷ [])
unfolding IsStrictlySortedBy
is_difference = record { ascends = (tt, tt); members = each _ refl refl refl refl refl; kept = each _ refl refl refl refl refl }

-- exactly one of 1 3 and 3 5 has 1 and 5
is_symmetric_difference : IsSetOf order same same exactly_one (one ∷ three ∷ []) (three ∷ five ∷ []) (one ∷ five ∷ [])
unfolding IsStrictlySortedBy
is_symmetric_difference = record
    { ascends = ((refl, tt), (tt, tt)); members = each _ refl refl refl refl refl; kept = each _ refl refl refl refl refl }

-- 1 3 5 is not the intersection of 1 3 and 3 5, which lacks 1
no_intersection : IsSetOf order same same ◌&&◌ (one ∷ three ∷ []) (three ∷ five ∷ []) (one ∷ three ∷ five ∷ []) → ⊥
no_intersection h = not_true (sym (h.members one))

-- what the two formulas say
in_the_left_alone : (and_not true false ≡ true) × (and_not true true ≡ false) × (and_not false true ≡ false)
    × (and_not false false ≡ false)
in_the_left_alone = (refl, refl, refl, refl)

in_exactly_one : (exactly_one true false ≡ true) × (exactly_one true true ≡ false) × (exactly_one false true ≡ true)
    × (exactly_one false false ≡ false)
in_exactly_one = (refl, refl, refl, refl)

-- the test "at least 3", which stays as it is
abbrev at_least_three : Unit {0} → ℕ → Bool → Unit {0} → Type 0
at_least_three before x answer after = answer ≡ nat_le 3 x

-- by it 1 goes and 3 stays
one_goes : IsRetained at_least_three (Some 1) None
one_goes = (tt, tt, false, refl, refl)

three_stays : IsRetained at_least_three (Some 3) (Some 3)
three_stays = (tt, tt, true, refl, refl)

-- it answers as the function does
answers_as_function : AnswersAs at_least_three tt (nat_le 3)
answers_as_function x answer after h = (h, refl)

-- a closure that answers true at every second call does not answer as one function
every_second : AnswersAs (λ (f : Bool) (x : ℕ) answer g. (answer ≡ f) × (g ≡ not f)) true (λ x. true) → ⊥
every_second h = not_true ((h 0 true false (refl, refl)).1)

-- nothing is in both of 1 3 and 5
is_disjoint : IsDisjoint order (one ∷ three ∷ []) (five ∷ [])
is_disjoint = each _ (λ p q. not_true q) (λ p q. not_true q) (λ p q. not_true q) (λ p q. not_true q) (λ p q. not_true p)

-- 3 is in both of 1 3 and 3 5
not_disjoint : IsDisjoint order (one ∷ three ∷ []) (three ∷ five ∷ []) → ⊥
not_disjoint h = h three refl refl

-- 3 is a subset of 1 3
is_subset : IsSubset order (three ∷ []) (one ∷ three ∷ [])
is_subset = each _ (λ p. refl) (λ p. not_true p) (λ p. refl) (λ p. not_true p) (λ p. not_true p)

-- and 1 3 is none of 3
no_subset : IsSubset order (one ∷ three ∷ []) (three ∷ []) → ⊥
no_subset h = not_true (h one refl)

-- by their names: the difference keeps what is in the left one alone, and 1 3 is a superset of 3
named_operation : (made_by Difference true false ≡ true) × (made_by SymmetricDifference false true ≡ true)
named_operation = (refl, refl)

named_test : IsTestedBy Superset order (one ∷ three ∷ []) (three ∷ [])
named_test = is_subset

-- ---- borrowed forms

-- by the forms of 3 and 2, in 1 3 5
three_is_found : member_by (λ y. nat_cmp y 3) (1 ∷ 3 ∷ 5 ∷ []) ≡ true
three_is_found = refl

two_is_not_found : member_by (λ y. nat_cmp y 2) (1 ∷ 3 ∷ 5 ∷ []) ≡ false
two_is_not_found = refl

three_is_shown : element_by (λ y. nat_cmp y 3) (1 ∷ 3 ∷ 5 ∷ []) ≡ Some 3
three_is_shown = refl

nothing_is_shown : element_by (λ y. nat_cmp y 2) (1 ∷ 3 ∷ 5 ∷ []) ≡ None
nothing_is_shown = refl

-- an element as its own form
member_by_element : {X : Type 0} (cmp : X → X → Ordering) (xs : List X) (x : X) → member_by (λ y. cmp y x) xs ≡ member cmp xs x
member_by_element cmp xs x = refl

element_by_element : {X : Type 0} (cmp : X → X → Ordering) (xs : List X) (x : X)
    → element_by (λ y. cmp y x) xs ≡ element_at cmp xs x
element_by_element cmp xs x = refl

-- what is missing stands first
missing_is_less : option_side (λ q y. nat_cmp y q) (Some 3) None ≡ Less
missing_is_less = refl

five_is_greater : option_side (λ q y. nat_cmp y q) (Some 3) (Some 5) ≡ Greater
five_is_greater = refl

nothing_stands_first : option_side (λ q y. nat_cmp y q) None (Some 5) ≡ Greater
nothing_stands_first = refl

-- ---- items that come in any order

-- 2 1 2
is_collected : IsCollected order (two ∷ one ∷ two ∷ []) (one ∷ two ∷ [])
unfolding IsStrictlySortedBy
is_collected = record {
  ascends = ((refl, tt), (tt, tt));
  members = each _ refl refl refl refl refl;
  kept = each _ refl refl refl refl refl;
}

-- 1 3 takes in 3 2
is_extended : IsExtended order (one ∷ three ∷ []) (three ∷ two ∷ []) (one ∷ two ∷ three ∷ [])
is_extended = record { members = each _ refl refl refl refl refl; kept = each _ refl refl refl refl refl }

-- of 1 3 more than one item may come
gives_more : GivesMoreThan (TakesFirst (λ (x : Digit). x)) 1 (one ∷ three ∷ [])
gives_more = (one ∷ [], three, [], (three ∷ [], (three ∷ [], refl, refl), refl), omega arith)
