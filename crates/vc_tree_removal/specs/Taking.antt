-- Which keys a removal removes, and what a node and its children are after it. No public clause
-- cites these words.
use Rattle.std.specs.Prelude.{◌≡◌, ℕ, zero, suc, [], ◌∷◌, ◌++◌, Bool, IsFalse, IsSome, IsTrue, List, Option, Some, None, ⊤}
use Rattle.std.specs.Prelude.{true, false}
use Rattle.std.specs.List.{remove}
use Rattle.std.specs.declared.cmp.Ordering.{Ordering}
use Rattle.vc_tree_model.specs.Child.{Begins, IsChild, solid_child}
use Rattle.vc_tree_model.specs.Key.{behind}
use Rattle.vc_tree_model.specs.Value.{IsKept}
use Rattle.vc_tree_model.specs.Tree.{Tree, Forest, bare, grow, no_tree, node}
use Rattle.vc_tree_model.specs.Canonical.{AreChildren, IsSolid}
use Rattle.vc_tree_model.specs.Map.{lookup, lookup_in}
use Rattle.vc_tree_model.specs.Same.{IsAlikeIn}
use Rattle.vc_tree_model.specs.Under.{under}
use Rattle.vc_tree_nodes.specs.Children.{seen}
use Rattle.vc_tree_nodes.specs.Places.{LeadsTo}
use Rattle.vc_tree_removal.specs.declared.removal.Extent.{Extent}
use Rattle.vc_tree_removal.specs.declared.removal.Extent.TheVariants.{Alone, Below}

module _ {K : Type 0} where
  -- whether a key is removed, by what is left of it after the given one: nothing, or anything where
  -- all below are removed
  abbrev pub tells : Option (List K) → Extent → Bool
  tells None e = false
  tells (Some []) e = true
  tells (Some (x ∷ rest)) Alone = false
  tells (Some (x ∷ rest)) Below = true

  -- whether a key is removed with that one: it equals it, or begins with it
  abbrev pub goes : (K → K → Ordering) → Extent → List K → List K → Bool
  goes cmp e key k = tells (behind cmp key k) e

-- of a key that is removed, y has what x has, and u nothing; of any other key, u has it, and y
-- nothing
abbrev pub IsPartedAt : {V : Type 0} → (V → V → Type 0) → Bool → Option V → Option V → Option V → Type 0
IsPartedAt keeps true x u y = (u ≡ None) × IsKept keeps x y
IsPartedAt keeps false x u y = IsKept keeps x u × (y ≡ None)

module _ {K V : Type 0} where
  -- the tree at a place of a list, which is the empty one where there is none
  abbrev pub tree_at : Forest K V → ℕ → Tree K V
  tree_at bare i = no_tree
  tree_at (grow p v kids rest) zero = node p v kids
  tree_at (grow p v kids rest) (suc i) = tree_at rest i

  -- the tree with this front before its prefix
  abbrev pub fronted : List K → Tree K V → Tree K V
  fronted front t = node (front ++ t.prefix) t.value t.children

  -- the list with this tree, or none, instead of one
  abbrev pub put : Forest K V → ℕ → Option (Tree K V) → Forest K V
  put bare i o = bare
  put (grow p v kids rest) zero None = rest
  put (grow p v kids rest) zero (Some t) = grow t.prefix t.value t.children rest
  put (grow p v kids rest) (suc i) o = grow p v kids (put rest i o)

  -- there is a tree
  abbrev pub AreSome : Forest K V → Type 0
  AreSome bare = ⊥
  AreSome (grow p v kids rest) = ⊤

  -- the first tree, if there is one, otherwise the second
  abbrev pub instead : Option (Tree K V) → Tree K V → Tree K V
  instead None t = t
  instead (Some u) t = u

  -- some key is bound that is removed with that one
  pub record Meets (cmp : K → K → Ordering) (extent : Extent) (key : List K) (f : List K → Option V) : Type 0 where
    pub met : List K
    pub goes_with : IsTrue (goes cmp extent key met)
    pub bound : IsSome (f met)

  -- what f binds of the keys that are removed with that one is what t binds where its prefix is
  -- whole, and g binds the rest; t can be among children
  pub record Divides (cmp : K → K → Ordering) (keeps : V → V → Type 0) (extent : Extent) (key : List K)
      (f g : List K → Option V) (t : Tree K V) : Type 0 where
    pub whole : List K
    pub parted : (k : List K)
        → IsPartedAt keeps (goes cmp extent key k) (f k) (g k) (lookup cmp (node whole t.value t.children) k)
    pub child : IsChild cmp (Some t)

  -- some key is bound that begins with that one; those that do are what t binds with the front
  -- before its prefix, which can be among children
  pub record IsFoundUnder (cmp : K → K → Ordering) (key : List K) (f : List K → Option V) (front : List K) (t : Tree K V)
      : Type 0 where
    pub met : Meets cmp Below key f
    pub binds : (k : List K) → under cmp f key k ≡ lookup cmp (fronted front t) k
    pub child : IsChild cmp (Some t)

  -- all keys of a tree are removed with that one
  abbrev pub IsWholly : (K → K → Ordering) → Extent → List K → Tree K V → Type 0
  IsWholly cmp extent key t = (k : List K) → IsFalse (goes cmp extent key k) → lookup cmp t k ≡ None

  -- the tree has children, and the key continues after its prefix, or is its prefix where only that
  -- key is removed
  pub record IsDeep (cmp : K → K → Ordering) (extent : Extent) (key : List K) (t : Tree K V) : Type 0 where
    pub some : AreSome t.children
    pub begins : IsSome (behind cmp t.prefix key)
    pub ends : behind cmp t.prefix key ≡ Some [] → extent ≡ Alone

  -- some key that is removed with the rest is bound below canonical children of a node that is
  -- solid, in the tree at place i
  pub record MeetsAt (cmp : K → K → Ordering) (extent : Extent) (rest : List K) (v : Option V) (f : Forest K V) (i : ℕ)
      : Type 0 where
    pub leads : LeadsTo cmp f rest i
    pub met : Meets cmp extent rest (lookup_in cmp f)
    pub canonical : AreChildren cmp f
    pub solid : IsSolid v f

  -- of a node with this prefix, which binds what f does, d is what is removed with the key, and u
  -- is what is left, which can be where the node was
  pub record Removed (cmp : K → K → Ordering) (keeps : V → V → Type 0) (extent : Extent) (prefix : List K)
      (f : List K → Option V) (key : List K) (d u : Tree K V) : Type 0 where
    pub divided : Divides cmp keeps extent key f (lookup cmp u) d
    pub child : IsChild cmp (Some u)
    pub begins : (y : K) (rest : List K) → prefix ≡ y ∷ rest → Begins cmp y u.prefix

  -- u is the tree at place i of the old list with the front before its prefix, and the new list is the old one without it
  pub record IsLone {T : Type 0} (tree : T → Tree K V) (front : List K) (old : List T) (i : ℕ) (u : Tree K V)
      (new : List T) : Type 0 where
    pub is : u ≡ fronted front (tree_at (seen tree old) i)
    pub others : new ≡ remove old i

  -- d is the tree at place i of the list, and u is what is left of the node, as a child
  pub record IsOut {T : Type 0} (tree : T → Tree K V) (front : List K) (v : Option V) (list : List T) (i : ℕ) (d u : Tree K V)
      : Type 0 where
    pub at : tree_at (seen tree list) i ≡ d
    pub is : solid_child front v (put (seen tree list) i None) ≡ Some u

  -- u is what is left of a node without a value, as a child, whose children are alike to these
  pub record IsBare (keeps : V → V → Type 0) (front : List K) (f : Forest K V) (u : Tree K V) : Type 0 where
    pub kept : Forest K V
    pub alike : IsAlikeIn keeps f kept
    pub is : solid_child front None kept ≡ Some u
