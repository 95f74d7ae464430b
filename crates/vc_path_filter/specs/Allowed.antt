-- What rules on paths allow. Rules are a tree of paths, with true at those that are allowed, and
-- false at those that are denied.
use Rattle.std.specs.Prelude.{◌≡◌, Bool, false, List, Option, Some, None}
use Rattle.std.specs.Option.{unwrap_or}
use Rattle.std.specs.declared.cmp.Ordering.{Ordering}
use Rattle.vc_tree_model.specs.Tree.{Tree}
use Rattle.vc_tree_model.specs.Map.{lookup}
use Rattle.vc_tree_model.specs.Cover.{cover, StaysOrGoes}

module _ {K : Type 0} (cmp : K → K → Ordering) (rules : Tree K Bool) where
  -- whether the longest rule that is a prefix of the path allows it; a path without such a rule is not allowed
  abbrev pub is_allowed : List K → Bool
  is_allowed path = unwrap_or (cover (lookup cmp rules) path) false

  module _ {V : Type 0} (keeps : V → V → Type 0) where
    -- at one key: a value stays where it is allowed, and is removed where not; no value is added
    abbrev pub IsPassed : Bool → Option V → Option V → Type 0
    IsPassed allowed None z = z ≡ None
    IsPassed allowed (Some v) z = StaysOrGoes keeps allowed v z

    -- of the map f, g binds the keys that the rules allow
    abbrev pub IsRestricted : (List K → Option V) → (List K → Option V) → Type 0
    IsRestricted f g = (k : List K) → IsPassed (is_allowed k) (f k) (g k)
