-- How many levels a tree has, and what bounds them.
use Rattle.std.specs.Prelude.{ℕ, ◌+◌, ◌≤◌, List, length, max, IsSome}
use Rattle.std.specs.declared.cmp.Ordering.{Ordering}
use Rattle.vc_tree_model.specs.Tree.{Tree, Forest, bare, grow, nodes, key_count}
use Rattle.vc_tree_model.specs.Map.{lookup}

module _ {K V : Type 0} where
  -- the most nodes that lie one below another in a list of trees
  abbrev pub forest_depth : Forest K V → ℕ
  forest_depth bare = 0
  forest_depth (grow p v kids rest) = max (forest_depth kids + 1) (forest_depth rest)

  -- how many levels a tree has: the most nodes that lie one below another, its root among them
  abbrev pub depth : Tree K V → ℕ
  depth t = forest_depth t.children + 1

  -- where no key has more than n components there are at most n + 1 levels, and there are no more than nodes, or than keys
  pub record IsShallow (cmp : K → K → Ordering) (t : Tree K V) : Type 0 where
    pub by_length : (n : ℕ) → ((k : List K) → IsSome (lookup cmp t k) → length k ≤ n) → depth t ≤ n + 1
    pub by_nodes : depth t ≤ nodes t
    pub by_keys : 1 ≤ key_count t → depth t ≤ key_count t
