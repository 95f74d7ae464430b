-- The walk of a tree: all of its pairs, their keys ascending.
use Rattle.std.specs.Prelude.{◌≡◌, ◌⊎◌, ◌↔◌, List, [], ◌∷◌, ◌++◌, map, Option, Some, None, IsTrue}
use Rattle.std.specs.declared.cmp.Ordering.{Ordering}
use Rattle.std.specs.Cmp.Lexicographic.{slice_cmp}
use Rattle.std.specs.List.Sorted.{IsStrictlySortedBy}
use Rattle.std.specs.Map.{keys_of}
use Rattle.vc_tree_model.specs.Key.{same_key}
use Rattle.vc_tree_model.specs.Tree.{Tree, Forest, bare, grow}

module _ {K V : Type 0} where
  -- a node's own value, where nothing is left of the key after its prefix
  abbrev pub own_pair : Option V → List (List K × V)
  own_pair None = []
  own_pair (Some v) = ([], v) ∷ []

  -- a pair with the prefix before its key
  abbrev pub prepended : List K → List K × V → List K × V
  prepended p b = (p ++ b.0, b.1)

  -- the pairs of a list of trees, tree by tree
  abbrev pub walk_in : Forest K V → List (List K × V)
  walk_in bare = []
  walk_in (grow p v kids rest) = map (prepended p) (own_pair v ++ walk_in kids) ++ walk_in rest

  -- the pairs of a tree, each node's before those of its children
  abbrev pub walk : Tree K V → List (List K × V)
  walk t = map (prepended t.prefix) (own_pair t.value ++ walk_in t.children)

  module _ (cmp : K → K → Ordering) where
    -- a pair of the list has an equal key and the value
    abbrev pub Lists : List (List K × V) → List K → V → Type 0
    Lists [] k a = ⊥
    Lists (b ∷ l) k a = (IsTrue (same_key cmp b.0 k) × (b.1 ≡ a)) ⊎ Lists l k a

    -- two pairs have equal keys and the same value
    abbrev pub IsSamePair : List K × V → List K × V → Type 0
    IsSamePair b c = IsTrue (same_key cmp b.0 c.0) × (b.1 ≡ c.1)

    -- l lists all pairs of the map f, and its keys ascend strictly
    pub record IsWalk (f : List K → Option V) (l : List (List K × V)) : Type 0 where
      pub ascends : IsStrictlySortedBy (slice_cmp cmp) (keys_of l)
      pub lists : (k : List K) (v : V) → Lists l k v ↔ (f k ≡ Some v)
