-- A tree whose children are in order is mended into the canonical one of its map: a node that binds nothing is removed, and one
-- without a value is joined to its only child.
--     mend, mend_root        one node over mended children, among siblings and as the whole tree
--     mend-children, lookup_in-mend        what becomes of the nodes, the order and the map
--     mend-root_nodes, mend-root_canonical, lookup-mend_root        the same of the whole tree
--     mended, mended-nodes, mended-canonical, lookup-mended        every node of a tree
use Rattle.std.proofs.Common.{◌≡◌, ◌+◌, ◌≤◌, ◌∷◌, ◌++◌, List, Option, None, Some, arith}
use Rattle.std.specs.declared.cmp.Ordering.{Ordering}
use Rattle.vc_tree_model.specs.Key.{behind}
use Rattle.vc_tree_model.specs.Tree.{Tree, Forest, bare, grow, node, no_tree, nodes, forest_nodes}
use Rattle.vc_tree_model.specs.Map.{or_else, node_lookup, lookup, lookup_in}
use Rattle.vc_tree_model.specs.Canonical.{AllAbove, AreOrdered, AreChildren, IsCanonical}
use Rattle.vc_tree_model.proofs.KeyLemmas.{then_behind, behind-append}

module _ {K V : Type 0} where
  -- a node over mended children, before mended siblings: taken out where it binds nothing, else joined to a lone child
  abbrev pub mend : List K → Option V → Forest K V → Forest K V → Forest K V
  mend p (Some v) kids rest = grow p (Some v) kids rest
  mend p None bare rest = rest
  mend p None (grow q w more bare) rest = grow (p ++ q) w more rest
  mend p None (grow q w more (grow r u most others)) rest = grow p None (grow q w more (grow r u most others)) rest

  -- a list of trees, mended at every depth
  abbrev pub mended_in : Forest K V → Forest K V
  mended_in bare = bare
  mended_in (grow p v kids rest) = mend p v (mended_in kids) (mended_in rest)

  -- the whole tree over mended children: the empty tree where it binds nothing
  abbrev pub mend_root : List K → Option V → Forest K V → Tree K V
  mend_root p (Some v) kids = node p (Some v) kids
  mend_root p None bare = no_tree
  mend_root p None (grow q w more bare) = node (p ++ q) w more
  mend_root p None (grow q w more (grow r u most others)) = node p None (grow q w more (grow r u most others))

  -- the tree, mended at every depth
  abbrev pub mended : Tree K V → Tree K V
  mended t = mend_root t.prefix t.value (mended_in t.children)

  -- ---- no node is added

  -- mended trees have no more nodes than before
  mended-nodes_in : (f : Forest K V) → forest_nodes (mended_in f) ≤ forest_nodes f
  mended-nodes_in (grow p v kids rest) = grind (arith, mended-nodes_in kids, mended-nodes_in rest)
  mended-nodes_in bare = grind arith

  -- the mended whole is one node at most, beside those below
  pub mend-root_nodes : (p : List K) (v : Option V) (f : Forest K V) → nodes (mend_root p v f) ≤ forest_nodes f + 1
  mend-root_nodes p v f = grind arith

  -- a mended tree has no more nodes than before
  pub mended-nodes : (t : Tree K V) → nodes (mended t) ≤ nodes t
  mended-nodes t = grind (arith, mend-root_nodes, mended-nodes_in)

module _ {K V : Type 0} (cmp : K → K → Ordering) where
  -- ---- mended trees are canonical

  -- so do all of a list
  mended-above : (x : K) (f : Forest K V) → AllAbove cmp x f → AllAbove cmp x (mended_in f)
  mended-above x (grow (y ∷ p) v kids rest) a = grind (arith, mended-above x rest)
  mended-above x f a = grind arith

  -- a mended node can be a child, beside canonical children
  pub mend-children : (x : K) (p : List K) (v : Option V) (kids rest : Forest K V) → AreChildren cmp kids
      → AllAbove cmp x rest → AreChildren cmp rest → AreChildren cmp (mend (x ∷ p) v kids rest)
  mend-children x p v kids rest a l b = grind arith

  -- mended trees in order are canonical children
  mended-children : (f : Forest K V) → AreOrdered cmp f → AreChildren cmp (mended_in f)
  mended-children (grow (x ∷ p) v kids rest) a =
      grind (arith, mended-children kids, mended-children rest, mend-children, mended-above)
  mended-children f a = grind arith

  -- the mended whole is canonical
  pub mend-root_canonical : (p : List K) (v : Option V) (f : Forest K V) → AreChildren cmp f
      → IsCanonical cmp (mend_root p v f)
  mend-root_canonical p v f a = grind arith

  -- a mended tree is canonical
  pub mended-canonical : (t : Tree K V) → AreOrdered cmp t.children → IsCanonical cmp (mended t)
  mended-canonical t a = grind (arith, mend-root_canonical, mended-children)

  -- ---- mended trees bind what they bound

  -- a node with neither value nor children binds nothing
  node_lookup-bare : (left : Option (List K)) → None ≡ node_lookup None (lookup_in {V = V} cmp bare) left
  node_lookup-bare left = grind arith

  -- an only child whose prefix is joined to its parent's binds what it bound below it
  node_lookup-joined : (q : List K) (w : Option V) (more : Forest K V) (left : Option (List K))
      → AreChildren cmp (grow q w more bare)
      → node_lookup w (lookup_in cmp more) (then_behind cmp q left)
      ≡ node_lookup None (lookup_in cmp (grow q w more bare)) left
  node_lookup-joined q w more left a = grind arith

  -- a node over children of an equal map has an equal map
  pub node_lookup-same : (v : Option V) (f g : List K → Option V) (left : Option (List K))
      → ((k : List K) → f k ≡ g k) → node_lookup v f left ≡ node_lookup v g left
  node_lookup-same v f g left h = grind arith

  -- a mended node binds what it bound
  pub lookup_in-mend : (p : List K) (v : Option V) (kids rest : Forest K V) (k : List K) → AreChildren cmp kids
      → lookup_in cmp (mend p v kids rest) k
      ≡ or_else (node_lookup v (lookup_in cmp kids) (behind cmp p k)) (lookup_in cmp rest k)
  lookup_in-mend p v kids rest k a = grind (arith, node_lookup-bare, behind-append, node_lookup-joined)

  -- so do all of a list
  lookup_in-mended : (f : Forest K V) → AreOrdered cmp f → (k : List K)
      → lookup_in cmp (mended_in f) k ≡ lookup_in cmp f k
  lookup_in-mended (grow (x ∷ p) v kids rest) a k =
      grind (arith, lookup_in-mended kids, lookup_in-mended rest, node_lookup-same, lookup_in-mend, mended-children)
  lookup_in-mended f a k = grind arith

  -- the mended whole binds what it bound
  pub lookup-mend_root : (p : List K) (v : Option V) (f : Forest K V) (k : List K) → AreChildren cmp f
      → lookup cmp (mend_root p v f) k ≡ lookup cmp (node p v f) k
  lookup-mend_root p v f k a = grind (arith, node_lookup-bare, behind-append, node_lookup-joined)

  -- a mended tree binds what it bound
  pub lookup-mended : (t : Tree K V) → AreOrdered cmp t.children → (k : List K)
      → lookup cmp (mended t) k ≡ lookup cmp t k
  lookup-mended t a k = grind (arith, lookup-mend_root, mended-children, node_lookup-same, lookup_in-mended)
