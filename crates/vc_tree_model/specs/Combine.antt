-- The combines of two trees. A combine is defined by its result at each key, from what the left and
-- the right tree bind there. `from_left` and `from_right` say how a value of either side comes into
-- the result: as a clone, or itself.
use Rattle.std.specs.Prelude.{◌≡◌, List, Option, Some, None}
use Rattle.std.specs.declared.cmp.Ordering.{Ordering}
use Rattle.vc_tree_model.specs.Value.{IsKept}
use Rattle.vc_tree_model.specs.Tree.{Tree}
use Rattle.vc_tree_model.specs.Map.{lookup}

-- at each key, R holds of what the left tree, the right tree and the combined one bind
abbrev pub IsCombined : {K V W U : Type 0} → (K → K → Ordering) → (Option V → Option W → Option U → Type 0)
    → Tree K V → Tree K W → Tree K U → Type 0
IsCombined {K} cmp R t u m = (k : List K) → R (lookup cmp t k) (lookup cmp u k) (lookup cmp m k)

module _ {V W U : Type 0} where
  -- a shared key has the answer, and no other key is bound
  abbrev pub IsInnerAt : (V → W → Option U → Type 0) → Option V → Option W → Option U → Type 0
  IsInnerAt answers (Some v) (Some w) made = answers v w made
  IsInnerAt answers (Some v) None made = made ≡ None
  IsInnerAt answers None w made = made ≡ None

  -- a key of the left has the answer to its value and to what the right one binds there, and no
  -- other key is bound
  abbrev pub IsLeftAt : (V → Option W → Option U → Type 0) → Option V → Option W → Option U → Type 0
  IsLeftAt answers (Some v) w made = answers v w made
  IsLeftAt answers None w made = made ≡ None

module _ {V : Type 0} (from_left from_right : V → V → Type 0) where
  -- a shared key has the answer, and a key of only one side keeps its value
  abbrev pub IsOuterAt : (V → V → Option V → Type 0) → Option V → Option V → Option V → Type 0
  IsOuterAt answers (Some v) (Some w) made = answers v w made
  IsOuterAt answers (Some v) None made = IsKept from_left (Some v) made
  IsOuterAt answers None w made = IsKept from_right w made

  -- each key of either side keeps its value, a shared key that of the left
  abbrev pub IsUnionAt : Option V → Option V → Option V → Type 0
  IsUnionAt (Some v) w made = IsKept from_left (Some v) made
  IsUnionAt None w made = IsKept from_right w made

module _ {V W : Type 0} (from_left : V → V → Type 0) where
  -- a shared key keeps the value of the left, and no other key is bound
  abbrev pub IsIntersectionAt : Option V → Option W → Option V → Type 0
  IsIntersectionAt v (Some w) made = IsKept from_left v made
  IsIntersectionAt v None made = made ≡ None

  -- a key of only the left keeps its value, and no other key is bound
  abbrev pub IsDifferenceAt : Option V → Option W → Option V → Type 0
  IsDifferenceAt v (Some w) made = made ≡ None
  IsDifferenceAt v None made = IsKept from_left v made
