-- Worked rows of the definitions on interval sets.
use Rattle.std.specs.Prelude.{◌≡◌, true, false, ◌||◌, [], ◌∷◌, Some, None, refl}
use Rattle.std.specs.List.Sorted.{IsStrictlySortedBy}
use Rattle.std.specs.declared.ops.Bound.TheVariants.{Included, Excluded, Unbounded}
use Rattle.vc_intervals.specs.Boundaries.{Intervals, intervals, complement, toggled, holds, IsEqualIntervals, IsClonedIntervals}
use Rattle.vc_intervals.specs.IntervalsOf.{Comes, IsIntervalsOf, IsIntervalSubset, IsIntervalDisjoint}
use Rattle.vc_intervals.specs.Listed.{listed, listed_from, begun_start}
use Rattle.vc_intervals.specs.Ranges.{in_range, in_some}
use Rattle.definition_tests.proofs.Digits.{Digit, one, two, three, four, five, order, each, same, not_true}

-- the numbers from 2 on that are less than 4
abbrev from_two : Intervals Digit
from_two = intervals (two ∷ four ∷ []) false

-- the answer below 2 and 4, which is no, is toggled by 2 at 3, and by both at 4
toggled_once : (toggled order false (two ∷ four ∷ []) three ≡ true) × (toggled order false (two ∷ four ∷ []) four ≡ false)
toggled_once = (refl, refl)

-- it has 2 and 3, and neither 1 nor 4
holds_two : (holds order from_two one ≡ false) × (holds order from_two two ≡ true) × (holds order from_two three ≡ true)
    × (holds order from_two four ≡ false)
holds_two = (refl, refl, refl, refl)

-- its complement has the same boundaries, and what lies below them
complement_has_the_boundaries : complement from_two ≡ intervals (two ∷ four ∷ []) true
complement_has_the_boundaries = refl

-- a set is equal to itself, and to its clone
is_equal : IsEqualIntervals order from_two from_two
is_equal = record { boundaries = (refl, (refl, tt)); below = refl }

is_cloned : IsClonedIntervals same from_two from_two
is_cloned = record { boundaries = (refl, (refl, tt)); below = refl }

-- a set is no clone of its complement
no_clone : IsClonedIntervals same from_two (complement from_two) → ⊥
no_clone h = not_true h.below

-- where both sets have a boundary the left one is taken, and else the one that is there
comes_left : Comes same (Some two) (Some two) (Some three)
comes_left = refl

comes_right : Comes same (Some three) None (Some three)
comes_right = refl

-- 2 to 4 and 3 to 5 make 2 to 5, whose end is that of the right set
is_union : IsIntervalsOf order same ◌||◌ from_two (intervals (three ∷ five ∷ []) false) (intervals (two ∷ five ∷ []) false)
unfolding IsStrictlySortedBy
is_union = record {
  ascends = ((refl, tt), (tt, tt));
  below = refl;
  at = each _ refl refl refl refl refl;
  kept = each _ tt refl tt tt refl;
}

-- 3 to 4 is within 2 to 4
is_subset : IsIntervalSubset order (intervals (three ∷ four ∷ []) false) from_two
is_subset = record {
  at = each _ (λ p. not_true p) (λ p. not_true p) (λ p. refl) (λ p. not_true p) (λ p. not_true p);
  below = λ p. p;
}

-- what lies below 1 is no subset of nothing, though there is no such number here
no_subset : IsIntervalSubset order (intervals (one ∷ []) true) (intervals [] false) → ⊥
no_subset h = not_true (h.below refl)

-- nothing is in 2 to 4 and from 4 on
is_disjoint : IsIntervalDisjoint order from_two (intervals (four ∷ []) false)
is_disjoint = record {
  at = each _ (λ p q. not_true p) (λ p q. not_true q) (λ p q. not_true q) (λ p q. not_true p) (λ p q. not_true p);
  below = λ p q. not_true p;
}

-- an interval that ends, and two that do not on one side
listed_two : listed from_two ≡ (Included two, Excluded four) ∷ []
listed_two = refl

listed_ends : listed (intervals (two ∷ four ∷ []) true) ≡ (Unbounded, Excluded two) ∷ (Included four, Unbounded) ∷ []
listed_ends = refl

-- one that has begun at 1 ends at 2
listed_begun : listed_from (Some (Included one)) (two ∷ []) ≡ (Included one, Excluded two) ∷ []
listed_begun = refl

begun_below : begun_start {X = Digit} true ≡ Some Unbounded
begun_below = refl

-- the range from 2 to 4 has 2, and not 4
in_a_range : (in_range order (record { start = two; end = four }) two ≡ true)
    × (in_range order (record { start = two; end = four }) four ≡ false)
in_a_range = (refl, refl)

-- 3 is in the second of two ranges, of which the first one is empty
in_a_second : in_some order (record { start = four; end = two } ∷ record { start = three; end = five } ∷ []) three ≡ true
in_a_second = refl
