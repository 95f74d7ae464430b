-- The parts of a map, by how its keys compare with a given one.
use Rattle.std.specs.Prelude.{List, Option, None, if◌then◌else◌}
use Rattle.std.specs.Cmp.Lexicographic.{slice_cmp}
use Rattle.std.specs.Ordering.{is_ge, is_gt, is_lt}
use Rattle.std.specs.declared.cmp.Ordering.{Ordering}

module _ {K V : Type 0} (cmp : K → K → Ordering) (f : List K → Option V) (key : List K) where
  -- what f binds at a key that is greater than the given one
  abbrev pub above : List K → Option V
  above k = if is_gt (slice_cmp cmp k key) then f k else None

  -- what f binds at a key that is less
  abbrev pub below : List K → Option V
  below k = if is_lt (slice_cmp cmp k key) then f k else None

  -- what f binds at a key that is not less
  abbrev pub not_below : List K → Option V
  not_below k = if is_ge (slice_cmp cmp k key) then f k else None
