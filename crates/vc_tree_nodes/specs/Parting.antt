-- Where a key diverges from a prefix. No public clause cites these words.
use Rattle.std.specs.Prelude.{◌≡◌, ℕ, ◌<◌, ◌≤◌, IsTrue, List, length, Some, slice_get, take, drop}
use Rattle.std.specs.declared.cmp.Ordering.{Ordering}
use Rattle.std.specs.declared.cmp.Ordering.TheVariants.{Less, Greater}
use Rattle.vc_tree_nodes.specs.declared.parting.Parting.{Parting}
use Rattle.vc_tree_nodes.specs.declared.parting.Parting.TheVariants.{Behind, Inside, Lower, Higher}
use Rattle.vc_tree_model.specs.Key.{same_key}
use Rattle.vc_tree_model.specs.Tree.{Tree, bare, grow}
use Rattle.vc_tree_model.specs.Canonical.{IsSolid}
use Rattle.vc_tree_nodes.specs.Places.{FitsAt}

module _ {K : Type 0} (cmp : K → K → Ordering) where
  -- the first n components of the prefix and of the key are there and equal
  pub record Agree (prefix key : List K) (n : ℕ) : Type 0 where
    pub within_prefix : n ≤ length prefix
    pub within_key : n ≤ length key
    pub same : IsTrue (same_key cmp (take n prefix) (take n key))

  -- they agree up to n, and there the prefix's component compares as given with the key's
  pub record PartsAt (order : Ordering) (prefix key : List K) (n : ℕ) : Type 0 where
    pub agree : Agree prefix key n
    pub old : K
    pub new : K
    pub old_at : slice_get prefix n ≡ Some old
    pub new_at : slice_get key n ≡ Some new
    pub ordered : cmp old new ≡ order

  -- the key diverges from the prefix as said
  abbrev pub IsParting : List K → List K → Parting → Type 0
  IsParting prefix key Behind = Agree prefix key (length prefix)
  IsParting prefix key (Inside n) = Agree prefix key n × (n ≡ length key) × (n < length prefix)
  IsParting prefix key (Lower n) = PartsAt Less prefix key n
  IsParting prefix key (Higher n) = PartsAt Greater prefix key n

module _ {K V : Type 0} (cmp : K → K → Ordering) where
  -- the prefix diverges from a key after n components, where the key continues with rest: a tree of
  -- rest is put at place i, next to a tree of what is left of the prefix
  pub record SplitsAt (t : Tree K V) (n : ℕ) (rest : List K) (i : ℕ) : Type 0 where
    pub within : n < length t.prefix
    pub place : i ≤ 1
    pub solid : IsSolid t.value t.children
    pub fits : FitsAt cmp (grow (drop n t.prefix) t.value t.children bare) rest i
