-- The conditions on all nodes of a tree that make it canonical.
use Rattle.std.specs.Prelude.{◌≡◌, ◌≢◌, ◌⊎◌, [], length, AllPairs, IsTrue, IsNone}
use Rattle.std.specs.declared.cmp.Ordering.{Ordering}
use Rattle.vc_tree_model.specs.Key.{BeginsBelow}
use Rattle.vc_tree_model.specs.Tree.{Tree, Forest, bare, grow, node, trees, is_bare}

module _ {K V : Type 0} where
  -- n is a tree of the list, or a node below one
  abbrev pub IsBelow : Tree K V → Forest K V → Type 0
  IsBelow n bare = ⊥
  IsBelow n (grow p v kids rest) = ((n ≡ node p v kids) ⊎ IsBelow n kids) ⊎ IsBelow n rest

  -- n is the whole of t, or a node below
  abbrev pub IsNodeOf : Tree K V → Tree K V → Type 0
  IsNodeOf n t = (n ≡ t) ⊎ IsBelow n t.children

  -- a node with neither value nor children is the whole tree, and its prefix is empty
  abbrev pub BareIsWhole : Tree K V → Type 0
  BareIsWhole t = (n : Tree K V) → IsNodeOf n t → IsTrue (is_bare n) → (n ≡ t) × (n.prefix ≡ [])

  -- no child's prefix is empty
  abbrev pub HavePrefixes : Tree K V → Type 0
  HavePrefixes t = (c : Tree K V) → IsBelow c t.children → c.prefix ≢ []

  -- the children of each node ascend strictly by the first components of their prefixes
  abbrev pub ChildrenAscend : (K → K → Ordering) → Tree K V → Type 0
  ChildrenAscend cmp t =
      (n : Tree K V) → IsNodeOf n t → AllPairs (λ c d. BeginsBelow cmp c.prefix d.prefix) (trees n.children)

  -- no node without a value has exactly one child
  abbrev pub NoLoneChild : Tree K V → Type 0
  NoLoneChild t = (n : Tree K V) → IsNodeOf n t → IsNone n.value → length (trees n.children) ≢ 1

  -- the four conditions of a canonical tree
  pub record MeetsConditions (cmp : K → K → Ordering) (t : Tree K V) : Type 0 where
    pub bare_is_whole : BareIsWhole t
    pub prefixes : HavePrefixes t
    pub ascending : ChildrenAscend cmp t
    pub no_lone_child : NoLoneChild t

  -- the two conditions on prefixes, under which the look-up finds whatever is bound
  pub record IsOrdered (cmp : K → K → Ordering) (t : Tree K V) : Type 0 where
    pub prefixes : HavePrefixes t
    pub ascending : ChildrenAscend cmp t
