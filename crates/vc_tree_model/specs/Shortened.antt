-- What a tree without the first components of its prefix binds, and the weight of a tree.
use Rattle.std.specs.Prelude.{ℕ, ◌+◌, List, ◌++◌, length, take}
use Rattle.std.specs.declared.cmp.Ordering.{Ordering}
use Rattle.vc_tree_model.specs.Value.{IsKept}
use Rattle.vc_tree_model.specs.Tree.{Tree, Forest, bare, grow}
use Rattle.vc_tree_model.specs.Map.{lookup}

module _ {K V : Type 0} where
  -- where t binds those n components and then a key, u binds the key, and it binds nothing else
  abbrev pub IsShortened : (K → K → Ordering) → (V → V → Type 0) → ℕ → Tree K V → Tree K V → Type 0
  IsShortened cmp keeps n t u = (k : List K) → IsKept keeps (lookup cmp t (take n t.prefix ++ k)) (lookup cmp u k)

  -- the nodes of a list of trees, and the components of all their prefixes
  abbrev pub forest_weight : Forest K V → ℕ
  forest_weight bare = 0
  forest_weight (grow p v kids rest) = length p + 1 + forest_weight kids + forest_weight rest

  -- the nodes of a tree, and the components of all its prefixes
  abbrev pub weight : Tree K V → ℕ
  weight t = length t.prefix + 1 + forest_weight t.children
