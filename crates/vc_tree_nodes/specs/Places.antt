-- The place of a component, or of a key, among the first components of a list of trees. No public clause cites these words.
use Rattle.std.specs.Prelude.{◌≡◌, ◌≤◌, ℕ, zero, suc, List, [], ◌∷◌, Option, Some, None, slice_get, take, IsTrue}
use Rattle.std.specs.Ordering.{is_eq}
use Rattle.std.specs.declared.cmp.Ordering.{Ordering}
use Rattle.std.specs.declared.cmp.Ordering.TheVariants.{Less}
use Rattle.vc_tree_model.specs.Key.{same_key}
use Rattle.vc_tree_model.specs.Tree.{Tree, Forest, bare, grow, nodes, forest_nodes, width, forest_width}
use Rattle.vc_tree_model.specs.Map.{lookup, lookup_in}
use Rattle.vc_tree_model.specs.Canonical.{AllAbove}

-- how a node compares with the component x by the first component of its prefix, if it has one
abbrev pub first_side : {K : Type 0} → (K → K → Ordering) → K → Option K → Ordering
first_side cmp x None = Less
first_side cmp x (Some y) = cmp y x

module _ {K V : Type 0} where
  -- the first component of the tree at a place
  abbrev pub child_first : Forest K V → ℕ → Option K
  child_first bare i = None
  child_first (grow p v kids rest) zero = slice_get p 0
  child_first (grow p v kids rest) (suc i) = child_first rest i

  module _ (cmp : K → K → Ordering) where
    -- the tree at place i begins with x
    pub record BeginsAt (f : Forest K V) (x : K) (i : ℕ) : Type 0 where
      pub here : K
      pub at : child_first f i ≡ Some here
      pub equal : IsTrue (is_eq (cmp here x))

    -- the first i trees begin below x, and the others above it
    abbrev pub IsGapAt : Forest K V → K → ℕ → Type 0
    IsGapAt f x zero = AllAbove cmp x f
    IsGapAt bare x (suc i) = ⊥
    IsGapAt (grow [] v kids rest) x (suc i) = ⊥
    IsGapAt (grow (y ∷ p) v kids rest) x (suc i) = (cmp y x ≡ Less) × IsGapAt rest x i

    -- the key begins as the tree at place i does
    pub record LeadsTo (f : Forest K V) (key : List K) (i : ℕ) : Type 0 where
      pub first : K
      pub others : List K
      pub key_is : key ≡ first ∷ others
      pub begins : BeginsAt f first i

    -- a tree of the key would be at place i
    pub record FitsAt (f : Forest K V) (key : List K) (i : ℕ) : Type 0 where
      pub first : K
      pub others : List K
      pub key_is : key ≡ first ∷ others
      pub gap : IsGapAt f first i

    -- no tree of f binds a key that begins with x
    abbrev pub IsNoChild : Forest K V → K → Type 0
    IsNoChild f x = (rest : List K) → lookup_in cmp f (x ∷ rest) ≡ None

    -- t begins with x, binds what f binds of the keys that begin with x, and has no more nodes, and
    -- no more children in a node
    pub record IsFoundChild (f : Forest K V) (x : K) (t : Tree K V) : Type 0 where
      pub begins : IsTrue (same_key cmp (take 1 t.prefix) (x ∷ []))
      pub same : (rest : List K) → lookup_in cmp f (x ∷ rest) ≡ lookup cmp t (x ∷ rest)
      pub smaller : nodes t ≤ forest_nodes f
      pub narrower : width t ≤ forest_width f
