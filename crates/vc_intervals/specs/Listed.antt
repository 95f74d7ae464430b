-- The intervals of a set by their two ends, as an iterator lists them.
use Rattle.std.specs.Prelude.{Bool, true, false, List, [], ◌∷◌, Option, Some, None}
use Rattle.std.specs.Borrow.{Bor}
use Rattle.std.specs.Range.Bound.{bound_map}
use Rattle.std.specs.declared.ops.Bound.{Bound}
use Rattle.std.specs.declared.ops.Bound.TheVariants.{Included, Excluded, Unbounded}
use Rattle.vc_intervals.specs.Boundaries.{Intervals}

module _ {X : Type 0} where
  -- the intervals of ascending boundaries, in order, where one may have begun already: it has this start, and each boundary begins one or ends it
  abbrev pub listed_from : Option (Bound X) → List X → List (Bound X × Bound X)
  listed_from None [] = []
  listed_from None (t ∷ ts) = listed_from (Some (Included t)) ts
  listed_from (Some start) [] = (start, Unbounded) ∷ []
  listed_from (Some start) (t ∷ ts) = (start, Excluded t) ∷ listed_from None ts

  -- the interval that has begun below all boundaries, where one has
  abbrev pub begun_start : Bool → Option (Bound X)
  begun_start true = Some Unbounded
  begun_start false = None

  -- the intervals of the set in ascending order
  abbrev pub listed : Intervals X → List (Bound X × Bound X)
  listed s = listed_from (begun_start s.below) s.boundaries

  -- the ends that two references show
  abbrev pub shown_ends : Bound (Bor X) × Bound (Bor X) → Bound X × Bound X
  shown_ends ends = (bound_map (λ x. x.now) ends.0, bound_map (λ x. x.now) ends.1)
