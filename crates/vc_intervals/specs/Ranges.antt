-- Values that lie in ranges.
use Rattle.std.specs.Prelude.{◌≡◌, ◌-◌, Bool, true, false, List, [], ◌∷◌, length, take}
use Rattle.std.specs.BTreeMap.Range.{range_contains}
use Rattle.std.specs.List.{AllByRecursion, list_any}
use Rattle.std.specs.Ordering.{is_le}
use Rattle.std.specs.declared.cmp.Ordering.{Ordering}
use Rattle.std.specs.declared.ops.Bound.TheVariants.{Included, Excluded}
use Rattle.std.specs.declared.ops.Range.{Range}
use Rattle.vc_merge.specs.Ascending.{Ascends}
use Rattle.vc_intervals.specs.Events.{odd}

module _ {X : Type 0} (cmp : X → X → Ordering) where
  -- x lies in the range: at its start or after, and before its end
  abbrev pub in_range : Range X → X → Bool
  in_range range x = range_contains cmp (Included range.start) (Excluded range.end) x

  -- x lies in one of the ranges
  abbrev pub in_some : List (Range X) → X → Bool
  in_some ranges x = list_any (λ range. in_range range x) ranges

  -- ---- how far a sweep has come. No public clause cites what follows.

  -- each range starts at or before those after it
  abbrev pub StartsAscend : List (Range X) → Type 0
  StartsAscend [] = Unit {0}
  StartsAscend (r ∷ rs) = AllByRecursion (λ q. is_le (cmp r.start q.start) ≡ true) rs × StartsAscend rs

  -- the boundaries of ranges that start at `start` or before it
  pub record IsSwept (start : X) (boundaries : List X) : Type 0 where
    pub ascends : Ascends cmp boundaries
    pub even : odd (length boundaries) ≡ false
    pub before : AllByRecursion (λ t. is_le (cmp t start) ≡ true) (take (length boundaries - 1) boundaries)
