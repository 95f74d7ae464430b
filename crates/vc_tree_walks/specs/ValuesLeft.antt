-- What is left of the values of a tree.
use Rattle.std.specs.Prelude.{ℕ, ◌+◌, ◌*◌, List, [], ◌∷◌, ◌++◌, map, reverse, Option, Some, None}
use Rattle.std.specs.Borrow.{Bor}
use Rattle.vc_tree_model.specs.Tree.{Tree, Forest, grow, nodes}
use Rattle.vc_tree_model.specs.Walk.{walk, walk_in}
use Rattle.vc_tree_nodes.specs.Children.{seen}
use Rattle.vc_tree_walks.specs.Left.{rows_work}
use Rattle.vc_tree_walks.specs.declared.values.Values.{Values}

-- a value as a list
abbrev pub own_value : {V : Type 0} → Option V → List V
own_value None = []
own_value (Some v) = v ∷ []

-- the values of rows of trees, the innermost first
abbrev pub rows_values : {K V : Type 0} → List (Forest K V × ℕ) → List V
rows_values [] = []
rows_values (row ∷ rows) = map (λ b. b.1) (walk_in row.0) ++ rows_values rows

module _ {K V T : Type 0} (tree : T → Tree K V) where
  -- the innermost row and those above it; no key is before their trees
  abbrev pub rows_of : List T → List (Bor (List T)) → List (Forest K V × ℕ)
  rows_of row above = (seen tree row, 0) ∷ map (λ r. (seen tree r.now, 0)) (reverse above)

  -- the values of the tree to start with, which comes after all rows
  abbrev pub start_values : Option (Bor T) → List V
  start_values None = []
  start_values (Some t) = map (λ b. b.1) (walk (tree t.now))

  -- how many steps it takes at most
  abbrev pub start_work : Option (Bor T) → ℕ
  start_work None = 0
  start_work (Some t) = 2 * nodes (tree t.now)

  -- the values that are left
  abbrev pub values_left : Values K V T → List V
  values_left s = rows_values (rows_of s.row.now s.above.items) ++ start_values s.start

  -- how many steps the iterator takes at most
  abbrev pub values_work : Values K V T → ℕ
  values_work s = rows_work (rows_of s.row.now s.above.items) + start_work s.start

  -- the innermost row with a tree before it, and those above it
  abbrev pub rows_before : T → Values K V T → List (Forest K V × ℕ)
  rows_before t s =
      (grow (tree t).prefix (tree t).value (tree t).children (seen tree s.row.now), 0)
      ∷ map (λ r. (seen tree r.now, 0)) (reverse s.above.items)

  -- the values that are left with a tree before the innermost row
  abbrev pub values_before : T → Values K V T → List V
  values_before t s = rows_values (rows_before t s) ++ start_values s.start

  -- and how many steps it takes at most
  abbrev pub work_before : T → Values K V T → ℕ
  work_before t s = rows_work (rows_before t s) + start_work s.start
