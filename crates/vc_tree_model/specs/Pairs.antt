-- What a list of pairs binds, where of pairs with equal keys the last one counts.
use Rattle.std.specs.Prelude.{◌≡◌, List, [], ◌∷◌, Option, Some, None, if◌then◌else◌}
use Rattle.std.specs.declared.cmp.Ordering.{Ordering}
use Rattle.vc_tree_model.specs.Key.{same_key}
use Rattle.vc_tree_model.specs.Tree.{Tree}
use Rattle.vc_tree_model.specs.Map.{or_else, lookup}

module _ {K V : Type 0} (cmp : K → K → Ordering) where
  -- the value of the last pair with an equal key
  abbrev pub last_bound : List (List K × V) → List K → Option V
  last_bound [] k = None
  last_bound (b ∷ pairs) k = or_else (last_bound pairs k) (if same_key cmp b.0 k then Some b.1 else None)

  -- the tree binds each key as the last pair with an equal one does
  abbrev pub IsCollected : List (List K × V) → Tree K V → Type 0
  IsCollected pairs t = (k : List K) → lookup cmp t k ≡ last_bound pairs k
