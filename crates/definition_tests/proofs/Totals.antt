-- Worked rows of the definitions on total sets.
use Rattle.std.specs.Prelude.{◌≡◌, true, false, ◌||◌, ◌&&◌, [], ◌∷◌, refl}
use Rattle.std.proofs.Common.{sym}
use Rattle.std.specs.List.Sorted.{IsStrictlySortedBy}
use Rattle.std.specs.declared.cmp.Ordering.{Ordering}
use Rattle.std.specs.declared.cmp.Ordering.TheVariants.{Equal}
use Rattle.vc_sets.specs.SetOf.{and_not}
use Rattle.vc_total_sets.specs.Within.{within_by}
use Rattle.vc_total_sets.specs.TotalSet.{total, complement, has, IsEqualTotal, IsClonedTotal}
use Rattle.vc_total_sets.specs.TotalOf.{listed_by, IsTotalOf, IsTotalOfEither, IsPointwise}
use Rattle.vc_total_sets.specs.TotalTests.{IsTotalSubset, IsTotalDisjoint}
use Rattle.definition_tests.proofs.Digits.{one, two, order, each, same, not_true}

-- all but 1 is the complement of 1
complement_of_all_but_one : complement (total (one ∷ []) true) ≡ total (one ∷ []) false
complement_of_all_but_one = refl

-- all but 1 has 2, and not 1
all_but_one_has_two : (has order (total (one ∷ []) true) two ≡ true) × (has order (total (one ∷ []) true) one ≡ false)
all_but_one_has_two = (refl, refl)

-- of 1 and 2, all but 1 has 2 alone
within_all_but_one : (within_by true true true ≡ false) × (within_by true true false ≡ true)
within_all_but_one = (refl, refl)

-- over the two truth values the list of both is not equal to all, which is the negated empty list
lists_differ : IsEqualTotal (λ p q. Equal) (total (false ∷ true ∷ []) false) (total [] true) → ⊥
lists_differ h = h.elements

-- a set is equal to itself, and to its clone
is_equal : IsEqualTotal order (total (one ∷ []) true) (total (one ∷ []) true)
is_equal = record { elements = (refl, tt); negated = refl }

is_cloned : IsClonedTotal same (total (one ∷ []) true) (total (one ∷ []) true)
is_cloned = record { elements = (refl, tt); negated = refl }

-- a set is no clone of its complement
no_clone : IsClonedTotal same (total (one ∷ []) true) (total (one ∷ []) false) → ⊥
no_clone h = not_true (sym h.negated)

-- "and" of two negated sets lists what either lists
and_of_negated : (listed_by ◌&&◌ true true true false ≡ true) × (listed_by ◌&&◌ true true false true ≡ true)
    × (listed_by ◌&&◌ true true false false ≡ false)
and_of_negated = (refl, refl, refl)

-- all but 1 "and" all but 2 is all but 1 2
is_total_of : IsTotalOf order same ◌&&◌ (total (one ∷ []) true) (total (two ∷ []) true) (total (one ∷ two ∷ []) true)
unfolding IsStrictlySortedBy
is_total_of = record {
  negated = refl;
  elements =
      record {
        ascends = ((refl, tt), (tt, tt));
        members = each _ refl refl refl refl refl;
        kept =
            each _ refl refl refl refl refl;
      };
}

-- a letter in either case
data Letter : Type 0 where
  small_a large_a : Letter

-- an order that takes both for equal
abbrev any_case : Letter → Letter → Ordering
any_case p q = Equal

-- all but a "or" all but A is all but A: of two negated sets the elements of the right one go first
is_total_of_either : IsTotalOfEither any_case same ◌||◌ (total (small_a ∷ []) true) (total (large_a ∷ []) true)
    (total (large_a ∷ []) true)
unfolding IsStrictlySortedBy
is_total_of_either = record { negated = refl; elements = record { ascends = (tt, tt); members = λ x. refl; kept = λ x. refl } }

-- 1 2 "and not" all but 1 is 1
is_pointwise : IsPointwise order and_not (total (one ∷ two ∷ []) false) (total (one ∷ []) true) (total (one ∷ []) false)
unfolding IsStrictlySortedBy
is_pointwise = record { ascends = (tt, tt); at = each _ refl refl refl refl refl; elsewhere = refl }

-- all is no subset of the list of both truth values, though each value is in both
no_subset : IsTotalSubset (λ p q. Equal) (total [] true) (total (false ∷ true ∷ []) false) → ⊥
no_subset h = not_true (h.elsewhere refl)

-- 1 is a subset of all but 2
is_subset : IsTotalSubset order (total (one ∷ []) false) (total (two ∷ []) true)
is_subset = record {
  at = each _ (λ p. refl) (λ p. not_true p) (λ p. not_true p) (λ p. not_true p) (λ p. not_true p);
  elsewhere = λ p. refl;
}

-- nothing is in both 1 and all but 1
is_disjoint : IsTotalDisjoint order (total (one ∷ []) false) (total (one ∷ []) true)
is_disjoint = record {
  at = each _ (λ p q. not_true q) (λ p q. not_true p) (λ p q. not_true p) (λ p q. not_true p)
      (λ p q. not_true p);
  elsewhere = λ p q. not_true p;
}

-- of two negated sets values in neither list are in both
negated_meet : IsTotalDisjoint order (total (one ∷ []) true) (total (two ∷ []) true) → ⊥
negated_meet h = h.elsewhere refl refl
