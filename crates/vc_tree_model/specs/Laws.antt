-- The laws of the definitions of this crate, as the functions of `laws` carry them.
use Rattle.std.specs.Prelude.{◌≡◌, ◌↔◌, List, ◌++◌, length, Option, Some, IsTrue, IsSome}
use Rattle.std.specs.List.{AllZip}
use Rattle.std.specs.declared.cmp.Ordering.{Ordering}
use Rattle.std.specs.declared.cmp.Ordering.TheVariants.{Less, Equal}
use Rattle.std.specs.Cmp.{IsTotalOrder}
use Rattle.std.specs.Cmp.Lexicographic.{slice_cmp}
use Rattle.vc_tree_model.specs.Key.{same_key, behind, Starts, IsLess}
use Rattle.vc_tree_model.specs.Tree.{Tree, key_count}
use Rattle.vc_tree_model.specs.Map.{lookup, IsEqualMap}
use Rattle.vc_tree_model.specs.Binds.{Binds}
use Rattle.vc_tree_model.specs.Canonical.{IsCanonical}
use Rattle.vc_tree_model.specs.Conditions.{MeetsConditions, IsOrdered}
use Rattle.vc_tree_model.specs.Same.{IsSame}
use Rattle.vc_tree_model.specs.OneTree.{IsOneTree, IsSmallest}
use Rattle.vc_tree_model.specs.Depth.{IsShallow}
use Rattle.vc_tree_model.specs.Walk.{IsWalk, IsSamePair, walk}

-- the order of slices is total on keys, and it tells equal keys, and which key is less
pub record KeysAreOrdered {K : Type 0} (cmp : K → K → Ordering) : Type 0 where
  pub total : IsTotalOrder (slice_cmp cmp)
  pub equal : (j k : List K) → (slice_cmp cmp j k ≡ Equal) ↔ IsTrue (same_key cmp j k)
  pub less : (j k : List K) → (slice_cmp cmp j k ≡ Less) ↔ IsLess cmp j k
  pub components : (j k : List K) → IsTrue (same_key cmp j k) ↔ AllZip (λ x y. cmp x y ≡ Equal) j k

-- a key starts with a prefix exactly where something is left after it, and what is left is unique
-- up to equality
pub record LeftBehindIsRest {K : Type 0} (cmp : K → K → Ordering) : Type 0 where
  pub starts : (k p : List K) → Starts cmp k p ↔ IsSome (behind cmp p k)
  pub joins : (k p rest : List K) → behind cmp p k ≡ Some rest → IsTrue (same_key cmp (p ++ rest) k)
  pub one : (k p q rest : List K) → behind cmp p k ≡ Some rest → IsTrue (same_key cmp (p ++ q) k)
      → IsTrue (same_key cmp q rest)

module _ (K V : Type 0) (cmp : K → K → Ordering) where
  -- a tree whose prefixes are in order binds a key to a value exactly where the look-up of the key gives the value
  abbrev pub BindsIsLookup : Type 0
  BindsIsLookup =
      (t : Tree K V) → IsOrdered cmp t → (k : List K) (a : V) → (Binds cmp t k a ↔ (lookup cmp t k ≡ Some a))

  -- a tree has the same value at equal keys
  abbrev pub LookupIsMap : Type 0
  LookupIsMap = (t : Tree K V) (j k : List K) → IsTrue (same_key cmp j k) → lookup cmp t j ≡ lookup cmp t k

  -- a tree is canonical exactly where the four conditions hold of all its nodes
  abbrev pub CanonicalIsConditions : Type 0
  CanonicalIsConditions = (t : Tree K V) → (IsCanonical cmp t ↔ MeetsConditions cmp t)

  -- the walk of a canonical tree is that of its map
  abbrev pub WalkListsMap : Type 0
  WalkListsMap = (t : Tree K V) → IsCanonical cmp t → IsWalk cmp (lookup cmp t) (walk t)

  -- a map has one walk, up to equal keys
  abbrev pub WalkIsOne : Type 0
  WalkIsOne =
      (f : List K → Option V) (l m : List (List K × V)) → IsWalk cmp f l → IsWalk cmp f m
      → AllZip (IsSamePair cmp) l m

  -- the number of keys of a canonical tree is that of the pairs of its map
  abbrev pub KeyCountIsLength : Type 0
  KeyCountIsLength =
      (t : Tree K V) → IsCanonical cmp t → (l : List (List K × V)) → IsWalk cmp (lookup cmp t) l
      → length l ≡ key_count t

  -- a canonical tree has few levels for its keys
  abbrev pub CanonicalIsShallow : Type 0
  CanonicalIsShallow = (t : Tree K V) → IsCanonical cmp t → IsShallow cmp t

  module _ (matches : V → V → Type 0) where
    -- canonical trees are the same exactly where their maps are equal
    abbrev pub CanonicalIsUnique : Type 0
    CanonicalIsUnique =
        (t u : Tree K V) → IsCanonical cmp t → IsCanonical cmp u
        → (IsSame cmp matches t u ↔ IsEqualMap matches (lookup cmp t) (lookup cmp u))

    -- a canonical tree is the one of its map, and the smallest
    abbrev pub CanonicalIsSmallest : Type 0
    CanonicalIsSmallest = (t : Tree K V) → IsCanonical cmp t → IsOneTree cmp matches t × IsSmallest cmp matches t
