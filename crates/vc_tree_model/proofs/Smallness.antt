-- A canonical tree has few nodes for its keys, and no tree of its map has fewer.
--     canonical-le        at most two nodes a key but one
--     same-nodes_in        trees that are the same have equally many nodes
--     canonical-fewest, canonical-smallest        no tree of an equal map whose prefixes are in order has fewer
use Rattle.std.proofs.Common.{◌≡◌, ℕ, ◌+◌, ◌*◌, ◌≤◌, ◌-◌, ◌∷◌, List, Option, arith}
use Rattle.std.specs.declared.cmp.Ordering.{Ordering}
use Rattle.std.specs.Cmp.{IsTotalOrder}
use Rattle.vc_tree_model.specs.Tree.{Tree, Forest, bare, grow, nodes, forest_nodes, own_count, key_count, forest_key_count}
use Rattle.vc_tree_model.specs.Map.{lookup, IsEqualMap}
use Rattle.vc_tree_model.specs.Canonical.{AreOrdered, AreChildren, IsSolid, IsWhole, IsCanonical}
use Rattle.vc_tree_model.specs.Same.{IsSameIn}
use Rattle.vc_tree_model.specs.OneTree.{IsSmallest}
use Rattle.vc_tree_model.proofs.ValueLemmas.{maps-by}
use Rattle.vc_tree_model.proofs.Uniqueness.{canonical-same}
use Rattle.vc_tree_model.proofs.Mending.{mended, mended-nodes, mended-canonical, lookup-mended}
use Rattle.vc_tree_model.proofs.FourConditions.{meets-ordered}

module _ {K V : Type 0} where
  -- how many trees a list has
  abbrev pub width : Forest K V → ℕ
  width bare = 0
  width (grow p v kids rest) = width rest + 1

  -- a solid node leaves one node to spare below it, a value for itself or a second child
  node-le : (v : Option V) (f : Forest K V) → IsSolid v f → forest_nodes f + width f ≤ 2 * forest_key_count f
      → forest_nodes f + 2 ≤ 2 * (own_count v + forest_key_count f)
  node-le v f s h = grind arith

  module _ (cmp : K → K → Ordering) where
    -- canonical children have at most two nodes a key, but one for each of them
    nodes-le_in : (f : Forest K V) → AreChildren cmp f → forest_nodes f + width f ≤ 2 * forest_key_count f
    nodes-le_in (grow (x ∷ p) v kids rest) a = grind (arith, nodes-le_in kids, nodes-le_in rest)
    nodes-le_in f a = grind arith

    -- a whole tree with a key is solid
    whole-le : (p : List K) (v : Option V) (f : Forest K V) → IsWhole p v f → AreChildren cmp f
        → 1 ≤ own_count v + forest_key_count f → forest_nodes f + 2 ≤ 2 * (own_count v + forest_key_count f)
    whole-le p v f w a k = grind (arith, node-le, nodes-le_in)

    -- a canonical tree of k keys has at most 2k - 1 nodes
    pub canonical-le : (t : Tree K V) → IsCanonical cmp t → 1 ≤ key_count t → nodes t ≤ 2 * key_count t - 1
    canonical-le t c k = grind (arith, whole-le)

    module _ (matches : V → V → Type 0) where
      -- trees that are the same have equally many nodes
      pub same-nodes_in : (f g : Forest K V) → IsSameIn cmp matches f g → forest_nodes f ≡ forest_nodes g
      same-nodes_in (grow p v kids rest) (grow q w more others) h =
          grind (arith, same-nodes_in kids more, same-nodes_in rest others)
      same-nodes_in f g h = grind arith

      -- a tree of an equal map whose children are in order, mended, is the canonical one
      pub canonical-fewest : IsTotalOrder cmp → (t u : Tree K V) → IsCanonical cmp t → AreOrdered cmp u.children
          → IsEqualMap matches (lookup cmp t) (lookup cmp u) → nodes t ≤ nodes u
      canonical-fewest o t u c d h =
          let maps = maps-by matches _ _ (lookup cmp (mended u)) h (lookup-mended cmp u d) in
          let same = canonical-same cmp o matches t (mended u) c (mended-canonical cmp u d) maps in
          let equal = same-nodes_in t.children (mended u).children same.2 in
          let fewer = mended-nodes u in
          omega (arith, equal, fewer)

      -- a canonical tree is the smallest of its map
      pub canonical-smallest : IsTotalOrder cmp → (t : Tree K V) → IsCanonical cmp t → IsSmallest cmp matches t
      canonical-smallest o t c =
          record
          { two_a_key = canonical-le t c; fewest = λ u m h. canonical-fewest o t u c (meets-ordered cmp u m) h }
