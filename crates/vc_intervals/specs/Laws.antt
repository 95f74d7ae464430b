-- The laws of the definitions of this crate, as the functions of `laws` carry them.
use Rattle.std.specs.Prelude.{◌≡◌, Bool}
use Rattle.std.specs.BTreeMap.Range.{range_contains}
use Rattle.std.specs.List.{AllByRecursion, list_any}
use Rattle.std.specs.declared.cmp.Ordering.{Ordering}
use Rattle.std.specs.declared.cmp.Ordering.TheVariants.{Less}
use Rattle.vc_merge.specs.Ascending.{Ascends}
use Rattle.vc_intervals.specs.Boundaries.{Intervals, holds, IsEqualIntervals}
use Rattle.vc_intervals.specs.IntervalsOf.{IsIntervalsOf}
use Rattle.vc_intervals.specs.Listed.{listed}

module _ {X : Type 0} (cmp : X → X → Ordering) where
  -- two sets with the same members and the same answer below have equal boundaries, and equal sets have the same members. The answer below
  -- is that at each value below all boundaries, where the type has one
  pub record MembersTellTheBoundaries : Type 0 where
    pub boundaries : (a b : Intervals X) → Ascends cmp a.boundaries → Ascends cmp b.boundaries → a.below ≡ b.below
        → ((x : X) → holds cmp a x ≡ holds cmp b x) → IsEqualIntervals cmp a b
    pub members : (a b : Intervals X) → IsEqualIntervals cmp a b → (x : X) → holds cmp a x ≡ holds cmp b x
    pub below : (a : Intervals X) (x : X) → AllByRecursion (λ t. cmp x t ≡ Less) a.boundaries → holds cmp a x ≡ a.below

  -- a value is in the set exactly where it lies in one of the intervals that are listed
  abbrev pub ListedIntervalsHold : Type 0
  ListedIntervalsHold =
      (a : Intervals X) → Ascends cmp a.boundaries → (x : X)
      → holds cmp a x ≡ list_any (λ ends. range_contains cmp ends.0 ends.1 x) (listed a)

  -- the result of an operation on two sets is unique up to equality
  abbrev pub IntervalsOfAreOne : (X → X → Type 0) → Type 0
  IntervalsOfAreOne from =
      (f : Bool → Bool → Bool) (a b c d : Intervals X) → IsIntervalsOf cmp from f a b c → IsIntervalsOf cmp from f a b d
      → IsEqualIntervals cmp c d
