-- That a tree is the one canonical tree of its map, and that no tree of the map is smaller.
use Rattle.std.specs.Prelude.{◌*◌, ◌-◌, ◌≤◌}
use Rattle.std.specs.declared.cmp.Ordering.{Ordering}
use Rattle.vc_tree_model.specs.Tree.{Tree, nodes, key_count}
use Rattle.vc_tree_model.specs.Map.{lookup, IsEqualMap}
use Rattle.vc_tree_model.specs.Canonical.{IsCanonical}
use Rattle.vc_tree_model.specs.Conditions.{IsOrdered}
use Rattle.vc_tree_model.specs.Same.{IsSame}

module _ {K V : Type 0} (cmp : K → K → Ordering) (matches : V → V → Type 0) where
  -- each canonical tree of an equal map is the same
  abbrev pub IsOneTree : Tree K V → Type 0
  IsOneTree t =
      (u : Tree K V) → IsCanonical cmp u → IsEqualMap matches (lookup cmp t) (lookup cmp u) → IsSame cmp matches t u

  -- a tree of k keys has at most 2k - 1 nodes, and no tree of an equal map whose prefixes are in order has fewer
  pub record IsSmallest (t : Tree K V) : Type 0 where
    pub two_a_key : 1 ≤ key_count t → nodes t ≤ 2 * key_count t - 1
    pub fewest : (u : Tree K V) → IsOrdered cmp u → IsEqualMap matches (lookup cmp t) (lookup cmp u)
        → nodes t ≤ nodes u
