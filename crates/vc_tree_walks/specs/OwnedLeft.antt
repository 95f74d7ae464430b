-- What is left of the pairs of a tree that the iterator owns.
use Rattle.std.specs.Prelude.{◌≡◌, ℕ, zero, suc, ◌+◌, ◌*◌, ◌<◌, List, [], ◌∷◌, ◌++◌, length, take, slice_index_or, Option, Some}
use Rattle.std.specs.Prelude.{None, if◌then◌else◌, Result, MatchOption, MatchResult}
use Rattle.std.specs.Borrow.{Bor}
use Rattle.vc_tree_model.specs.Tree.{Tree, Forest, bare, grow, node, nodes}
use Rattle.vc_tree_model.specs.Walk.{walk}
use Rattle.vc_tree_walks.specs.Left.{pair_at, rows_left, outer_work}
use Rattle.vc_tree_walks.specs.declared.owned.ObjAndIter.{ObjAndIter}
use Rattle.vc_tree_walks.specs.declared.owned.OpenNode.{OpenNode}
use Rattle.vc_tree_walks.specs.declared.owned.Way.{Way}
use Rattle.vc_tree_walks.specs.declared.turn.WalkStep.{WalkStep}
use Rattle.vc_tree_walks.specs.declared.turn.WalkStep.TheVariants.{Item, Moved, Done}

-- a step of an iterator that gives clones, and takes at most a number of further steps: it gives
-- that of its first item, and the others are left. Or it gives an error, nothing is left, and no
-- later step finds something. Or it gives `None`, where nothing is left
abbrev pub WalksClones : {S K V E : Type 0} → (V → V → Type 0) → (S → List (K × V)) → (S → ℕ) → S → Option (Result (K × V) E)
    → S → Type 0
WalksClones {V = V} is_clone rest work s r t =
    MatchOption r ((rest s ≡ []) × (rest t ≡ []))
    (λ x. MatchResult x (λ item. (v : V) × is_clone v item.1 × (rest s ≡ (item.0, v) ∷ rest t))
    (λ _. (rest t ≡ []) × (work t ≡ 0)))

-- a node of this key and this value: the key and a clone of the value, or none
abbrev pub IsItem : {K V : Type 0} → (V → V → Type 0) → List K → Option V → WalkStep (List K × V) → Type 0
IsItem {V = V} is_clone key v (Item x) = (w : V) × is_clone w x.1 × (x.0 ≡ key) × (v ≡ Some w)
IsItem is_clone key v Moved = v ≡ None
IsItem is_clone key v Done = ⊥

module _ {K V : Type 0} where
  -- the trees of a list without the first n
  abbrev pub skip : ℕ → Forest K V → Forest K V
  skip zero f = f
  skip (suc n) bare = bare
  skip (suc n) (grow p v kids rest) = skip n rest

  -- the tree at a place
  abbrev pub tree_at : ℕ → Forest K V → Option (Tree K V)
  tree_at n bare = None
  tree_at zero (grow p v kids rest) = Some (node p v kids)
  tree_at (suc n) (grow p v kids rest) = tree_at n rest

  -- the tree that was entered last, where n trees were entered
  abbrev pub entered : ℕ → Forest K V → Option (Tree K V)
  entered zero f = None
  entered (suc n) f = tree_at n f

  -- the rows below the open nodes of a path that continues from a node, the innermost first: of
  -- each the children that were not entered yet, and how much of the key is before theirs
  abbrev pub rows_at : Tree K V → List OpenNode → List (Forest K V × ℕ)
  rows_at t [] = []
  rows_at t (place ∷ path) =
      elim (entered place.entered t.children) [
        | None ↦ []
        | Some c ↦ rows_at c path
      ]
      ++ (skip place.entered t.children, place.base) ∷ []

  -- the place of a node that is opened: none where it has no children
  abbrev pub opened : Tree K V → ℕ → List OpenNode
  opened t base =
      elim t.children [
        | bare ↦ []
        | grow p v kids rest ↦ record { entered = 0; base = base } ∷ []
      ]

  -- the pairs that are left of a tree, on the way to where a walk is
  abbrev pub way_left : Tree K V → Way K → List (List K × V)
  way_left root way = rows_left (take way.front way.key) (rows_at root way.path.items)

  -- how many steps a walk over them takes at most
  abbrev pub way_work : Tree K V → Way K → ℕ
  way_work root way = outer_work (rows_at root way.path.items)

  -- the path leads to this node, at this depth, below which no child is open; the rows above it are left elsewhere
  pub record IsReached (root : Tree K V) (path : List OpenNode) (t : Tree K V) (depth : ℕ) : Type 0 where
    pub above : List (Forest K V × ℕ)
    pub within : depth < length path
    pub rows : (more : List OpenNode) → rows_at root (take depth path ++ more) ≡ rows_at t more ++ above
    pub here : (place : OpenNode) → place ≡ slice_index_or path depth place
        → rows_at root path ≡ (skip place.entered t.children, place.base) ∷ above

module _ {K V T : Type 0} (tree : T → Tree K V) where
  -- the pair of a node of this key, if there is a node and it has a value
  abbrev pub own_pairs : List K → Option (Bor T) → List (List K × V)
  own_pairs key None = []
  own_pairs key (Some t) = pair_at key (tree t.now).value

  -- the pairs that are left
  abbrev pub held_left : ObjAndIter K V T → List (List K × V)
  held_left s =
      if s.started
      then way_left (tree s.tree) s.way
      else walk (tree s.tree)

  -- how many steps the iterator takes at most
  abbrev pub held_work : ObjAndIter K V T → ℕ
  held_work s = if s.started then way_work (tree s.tree) s.way else (1 + 2 * nodes (tree s.tree))

  -- what one step found, and what is left after it
  abbrev pub IsStep : (V → V → Type 0) → ObjAndIter K V T → WalkStep (List K × V) → ObjAndIter K V T → Type 0
  IsStep is_clone s (Item x) t =
      (v : V) × is_clone v x.1 × (held_left s ≡ (x.0, v) ∷ held_left t) × (held_work t < held_work s)
  IsStep is_clone s Moved t = (held_left s ≡ held_left t) × (held_work t < held_work s)
  IsStep is_clone s Done t = (held_left s ≡ []) × (held_left t ≡ [])
