-- The rule of a path decides on that path.
use Rattle.std.proofs.Common.{◌≡◌, ◌∷◌, [], List, Option, Some, Bool, false, ap}
use Rattle.std.specs.Option.{unwrap_or}
use Rattle.std.specs.declared.cmp.Ordering.{Ordering}
use Rattle.vc_path_filter.specs.Allowed.{is_allowed}
use Rattle.vc_tree_model.specs.Cover.{cover}
use Rattle.vc_tree_model.specs.Map.{or_else, lookup}
use Rattle.vc_tree_model.specs.Tree.{Tree}

-- what is bound at a path covers it, since no longer key is a prefix of it
cover-itself : {K W : Type 0} (q : List K → Option W) (path : List K) (w : W) → q path ≡ Some w
    → cover q path ≡ Some w
cover-itself q [] w e = e
cover-itself q (x ∷ path) w e = ap (λ o. or_else o (q [])) (cover-itself (λ rest. q (x ∷ rest)) path w e)

-- the rule of a path decides on it
pub allowed-itself : {K : Type 0} (cmp : K → K → Ordering) (rules : Tree K Bool) (path : List K) (allowed : Bool)
    → lookup cmp rules path ≡ Some allowed → is_allowed cmp rules path ≡ allowed
allowed-itself cmp rules path allowed e =
    ap (λ o. unwrap_or o false) (cover-itself (lookup cmp rules) path allowed e)
