-- A node and its children after an insertion. No public clause cites these words.
use Rattle.std.specs.Prelude.{◌≡◌, ℕ, List, take, insert}
use Rattle.std.specs.declared.cmp.Ordering.{Ordering}
use Rattle.vc_tree_model.specs.Tree.{Tree}
use Rattle.vc_tree_model.specs.Map.{IsInserted}
use Rattle.vc_tree_model.specs.Canonical.{IsSolid, AreChildren}
use Rattle.vc_tree_model.specs.Same.{IsAlikeIn}
use Rattle.vc_tree_nodes.specs.Children.{seen}

module _ {K V : Type 0} where
  -- a node with this prefix, a value or at least two children, and canonical children
  pub record IsBranch (cmp : K → K → Ordering) (p : List K) (t : Tree K V) : Type 0 where
    pub prefix : t.prefix ≡ p
    pub solid : IsSolid t.value t.children
    pub children : AreChildren cmp t.children

  -- the first n components of the prefix are kept, and the node has a value or at least two
  -- children, and canonical children
  pub record IsGrown (cmp : K → K → Ordering) (n : ℕ) (t u : Tree K V) : Type 0 where
    pub begins : take n u.prefix ≡ take n t.prefix
    pub solid : IsSolid u.value u.children
    pub children : AreChildren cmp u.children

  -- u is t with the key bound to the value, and a branch with the prefix p
  pub record Inserted (cmp : K → K → Ordering) (keeps : V → V → Type 0) (t : Tree K V) (key : List K) (value : V)
      (p : List K) (u : Tree K V) : Type 0 where
    pub updated : IsInserted cmp keeps key value t u
    pub branch : IsBranch cmp p u

  -- the list is alike to the old one, with one more tree at place i
  pub record Adds (keeps : V → V → Type 0) {T : Type 0} (tree : T → Tree K V)
      (old : List T) (i : ℕ) (item : T) (new : List T) : Type 0 where
    pub kept : List T
    pub alike : IsAlikeIn keeps (seen tree old) (seen tree kept)
    pub is : new ≡ insert kept i item
