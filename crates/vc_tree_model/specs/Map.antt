-- The finite map of a tree, as the function that looks a key up, and facts on maps.
use Rattle.std.specs.Prelude.{◌≡◌, List, [], ◌∷◌, Option, Some, None, IsTrue, IsFalse, refl}
use Rattle.std.specs.declared.cmp.Ordering.{Ordering}
use Rattle.vc_tree_model.specs.Key.{same_key, behind}
use Rattle.vc_tree_model.specs.Value.{IsKept}
use Rattle.vc_tree_model.specs.Tree.{Tree, Forest, bare, grow}

-- the first value where there is one, otherwise the second
abbrev pub or_else : {V : Type 0} → Option V → Option V → Option V
or_else None o = o
or_else (Some v) o = Some v

-- nothing in the second place changes nothing
pub or_else-none : {V : Type 0} (o : Option V) → or_else o None ≡ o
or_else-none None = refl
or_else-none (Some v) = refl

-- what a node has at what is left of a key after its prefix: its own value where nothing is left,
-- otherwise what is below
abbrev pub node_lookup : {K V : Type 0} → Option V → (List K → Option V) → Option (List K) → Option V
node_lookup v below None = None
node_lookup v below (Some []) = v
node_lookup v below (Some (x ∷ rest)) = below (x ∷ rest)

module _ {K V : Type 0} (cmp : K → K → Ordering) where
  -- the value of a key in a list of trees
  abbrev pub lookup_in : Forest K V → List K → Option V
  lookup_in bare k = None
  lookup_in (grow p v kids rest) k = or_else (node_lookup v (lookup_in kids) (behind cmp p k)) (lookup_in rest k)

  -- the value of a key in a tree
  abbrev pub lookup : Tree K V → List K → Option V
  lookup t k = node_lookup t.value (lookup_in t.children) (behind cmp t.prefix k)

  -- g binds the key to the value, and keeps what f binds at every other key
  pub record IsUpdated (keeps : V → V → Type 0) (key : List K) (value : V) (f g : List K → Option V) : Type 0 where
    pub at : (k : List K) → IsTrue (same_key cmp key k) → g k ≡ Some value
    pub others : (k : List K) → IsFalse (same_key cmp key k) → IsKept keeps (f k) (g k)

-- at each key both maps bind nothing, or both bind values that match
abbrev pub IsEqualMap : {K V : Type 0} → (V → V → Type 0) → (List K → Option V) → (List K → Option V) → Type 0
IsEqualMap {K} matches f g = (k : List K) → IsKept matches (f k) (g k)

module _ {K V : Type 0} (cmp : K → K → Ordering) (keeps : V → V → Type 0) where
  -- the tree u binds the key to the value, and keeps what the tree t binds at every other key
  abbrev pub IsInserted : List K → V → Tree K V → Tree K V → Type 0
  IsInserted key value t u = IsUpdated cmp keeps key value (lookup cmp t) (lookup cmp u)

  -- at each key both trees bind nothing, or the second binds what the first does, kept
  abbrev pub HaveEqualMaps : Tree K V → Tree K V → Type 0
  HaveEqualMaps t u = IsEqualMap keeps (lookup cmp t) (lookup cmp u)
