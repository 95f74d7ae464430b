-- What is left of the pairs of a tree.
use Rattle.std.specs.Prelude.{◌≡◌, ℕ, ◌*◌, ◌<◌, List, [], ◌∷◌, map, reverse, Option, Some, None}
use Rattle.std.specs.Borrow.{Bor}
use Rattle.vc_tree_model.specs.Tree.{Tree, Forest, grow, nodes}
use Rattle.vc_tree_model.specs.Walk.{prepended, walk}
use Rattle.vc_tree_nodes.specs.Children.{seen}
use Rattle.vc_tree_walks.specs.Left.{rows_left, rows_work}
use Rattle.vc_tree_walks.specs.declared.iter.Iter.{Iter}
use Rattle.vc_tree_walks.specs.declared.iter.Row.{Row}
use Rattle.vc_tree_walks.specs.declared.turn.WalkStep.{WalkStep}
use Rattle.vc_tree_walks.specs.declared.turn.WalkStep.TheVariants.{Item, Moved, Done}

-- a node of this key and this value: the item of the two, or none
abbrev pub IsItem : {K V : Type 0} → List K → Option V → WalkStep (List K × Bor V) → Type 0
IsItem key v (Item x) = (x.0 ≡ key) × (v ≡ Some x.1.now)
IsItem key v Moved = v ≡ None
IsItem key v Done = ⊥

module _ {K V T : Type 0} (tree : T → Tree K V) where
  -- the pairs of a tree, with what is before its keys, or no pair
  abbrev pub pairs_from : Option (Bor (List K) × Bor T) → List (List K × V)
  pairs_from None = []
  pairs_from (Some from) = map (prepended from.0.now) (walk (tree from.1.now))

  -- a row of trees
  abbrev pub row_of : Row T → Forest K V × ℕ
  row_of row = (seen tree row.trees.now, row.base)

  -- the innermost row and those above it
  abbrev pub rows_of : Row T → List (Row T) → List (Forest K V × ℕ)
  rows_of row above = row_of row ∷ map row_of (reverse above)

  -- the same with a tree before the innermost row
  abbrev pub rows_before : T → Iter K V T → List (Forest K V × ℕ)
  rows_before t s =
      (grow (tree t).prefix (tree t).value (tree t).children (seen tree s.row.trees.now), s.row.base)
      ∷ map row_of (reverse s.above.items)

  -- the pairs that are left
  abbrev pub pairs_left : Iter K V T → List (List K × V)
  pairs_left s =
      elim s.start [
        | None ↦ rows_left s.key (rows_of s.row s.above.items)
        | Some from ↦ pairs_from (Some from)
      ]

  -- the pairs of a whole tree, or those that are left with a row instead of the innermost one
  abbrev pub pairs_with : Iter K V T → T → Option (Bor (List T)) → List (List K × V)
  pairs_with s t None = map (prepended []) (walk (tree t))
  pairs_with s t (Some row) = rows_left s.key ((seen tree row.now, s.row.base) ∷ map row_of (reverse s.above.items))

  -- how many steps the iterator takes at most
  abbrev pub work_left : Iter K V T → ℕ
  work_left s =
      elim s.start [
        | None ↦ rows_work (rows_of s.row s.above.items)
        | Some from ↦ 2 * nodes (tree from.1.now)
      ]

  -- what one step found, and what is left after it
  abbrev pub IsStep : Iter K V T → WalkStep (List K × Bor V) → Iter K V T → Type 0
  IsStep s (Item x) t = (pairs_left s ≡ (x.0, x.1.now) ∷ pairs_left t) × (work_left t < work_left s)
  IsStep s Moved t = (pairs_left s ≡ pairs_left t) × (work_left t < work_left s)
  IsStep s Done t = (pairs_left s ≡ []) × (pairs_left t ≡ [])
