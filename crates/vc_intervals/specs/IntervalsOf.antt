-- The result of an operation on two interval sets. It is given by f, which says whether a place is
-- in the result, from whether it is in the left set and in the right one.
use Rattle.std.specs.Prelude.{◌≡◌, Bool, Option, Some, None, IsTrue}
use Rattle.std.specs.declared.cmp.Ordering.{Ordering}
use Rattle.vc_merge.specs.Ascending.{Ascends, element_at}
use Rattle.vc_intervals.specs.Boundaries.{Intervals, holds}

-- a boundary of the result, where it has one, comes by `from` from the left boundary there, where that is
-- one, and otherwise from the right one
abbrev pub Comes : {X : Type 0} → (X → X → Type 0) → Option X → Option X → Option X → Type 0
Comes from None left right = Unit {0}
Comes from (Some z) (Some x) right = from x z
Comes from (Some z) None (Some y) = from y z
Comes from (Some z) None None = ⊥

module _ {X : Type 0} (cmp : X → X → Ordering) where
  -- c is what f makes of a and b: at each place, and below all boundaries. A boundary of it comes by `from`
  -- from one of a, where a has an equal one, and otherwise from one of b
  pub record IsIntervalsOf (from : X → X → Type 0) (f : Bool → Bool → Bool) (a b c : Intervals X) : Type 0 where
    pub ascends : Ascends cmp c.boundaries
    pub below : c.below ≡ f a.below b.below
    pub at : (x : X) → holds cmp c x ≡ f (holds cmp a x) (holds cmp b x)
    pub kept : (x : X) → Comes from (element_at cmp c.boundaries x) (element_at cmp a.boundaries x) (element_at cmp b.boundaries x)

  -- what is in a is in b: at each place, and below all boundaries
  pub record IsIntervalSubset (a b : Intervals X) : Type 0 where
    pub at : (x : X) → IsTrue (holds cmp a x) → IsTrue (holds cmp b x)
    pub below : IsTrue a.below → IsTrue b.below

  -- nothing is in both
  pub record IsIntervalDisjoint (a b : Intervals X) : Type 0 where
    pub at : (x : X) → IsTrue (holds cmp a x) → IsTrue (holds cmp b x) → ⊥
    pub below : IsTrue a.below → IsTrue b.below → ⊥
