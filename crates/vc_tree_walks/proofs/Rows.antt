-- What a step does to the pairs that are left of rows of trees.
--     first-tree        the pairs of a row are those of its first tree, and then the others
--     entered        a step to a tree finds its own pair, and leaves those of its children and of its siblings
--     entered-rows        the same with rows as the iterator stores them
use Rattle.std.proofs.Common.{◌≡◌, ℕ, ◌-◌, List, [], ◌∷◌, ◌++◌, length, take, map, Option}
use Rattle.std.proofs.Common.{ap, ◌∙◌, append_assoc, append-nil, length-append, arith}
use Rattle.std.proofs.Math.Seq.{take-append_seam, take-length}
use Rattle.std.proofs.lemmas.List.{reverse-append}
use Rattle.std.specs.Prelude.{reverse}
use Rattle.std.specs.Borrow.{Bor}
use Rattle.vc_tree_model.specs.Tree.{Tree, Forest, grow}
use Rattle.vc_tree_model.specs.Walk.{own_pair, prepended, walk_in}
use Rattle.vc_tree_nodes.specs.Children.{seen}
use Rattle.vc_tree_walks.specs.Left.{pair_at, rows_left}
use Rattle.vc_tree_walks.specs.IterLeft.{row_of, rows_of}
use Rattle.vc_tree_walks.specs.declared.iter.Row.{Row}

module _ {K : Type 0} where
  -- what stands before the last part of a list
  front-taken : (a p l : List K) → l ≡ a ++ p → take (length l - length p) l ≡ a
  front-taken a p l e =
      let long : length (a ++ p) - length p ≡ length a = omega (arith, length-append a p) in
      rw e (ap (λ n. take n (a ++ p)) long ∙ take-append_seam a p)

module _ {K V : Type 0} where
  -- one prefix before another
  pub prepended-twice : (a p : List K) (l m : List (List K × V))
      → map (prepended a) (map (prepended p) l ++ m) ≡ map (prepended (a ++ p)) l ++ map (prepended a) m
  prepended-twice a p (b ∷ l) m = grind (arith, append_assoc, prepended-twice a p l m)
  prepended-twice a p l m = grind (arith, append_assoc)

  -- a node's own pair before those of its children
  pub own-first : (key : List K) (v : Option V) (l : List (List K × V))
      → map (prepended key) (own_pair v ++ l) ≡ pair_at key v ++ map (prepended key) l
  own-first key v l = grind (arith, append-nil)

  -- the pairs of a row are those of its first tree, and then the others
  pub first-tree : (a p : List K) (v : Option V) (kids others : Forest K V) (m : List (List K × V))
      → map (prepended a) (walk_in (grow p v kids others)) ++ m
      ≡ pair_at (a ++ p) v ++ (map (prepended (a ++ p)) (walk_in kids) ++ (map (prepended a) (walk_in others) ++ m))
  first-tree a p v kids others m = grind (arith, own-first, walk_in, prepended-twice, own_pair, append_assoc, pair_at)

  -- a step to a tree finds its own pair, and leaves those of its children and of the trees beside it
  pub entered : (key now p : List K) (v : Option V) (kids others : Forest K V) (n : ℕ) (rows : List (Forest K V × ℕ))
      → now ≡ take n key ++ p
      → rows_left key ((grow p v kids others, n) ∷ rows)
      ≡ pair_at now v ++ rows_left now ((kids, length now) ∷ (others, length now - length p) ∷ rows)
  entered key now p v kids others n rows e = grind (arith, walk_in, rows_left, first-tree, pair_at, front-taken, take-length)

module _ {K V T : Type 0} (tree : T → Tree K V) where
  -- a step to a tree with children
  pub entered-rows : (t : T) (key now shown p : List K) (row beside below : Row T) (kids : Bor (List T))
      → (rows above : List (Row T)) → p ≡ (tree t).prefix → now ≡ take row.base key ++ p → shown ≡ now
      → seen tree kids.now ≡ (tree t).children
      → beside ≡ record { trees = row.trees; base = length shown - length p }
      → below ≡ record { trees = kids; base = length shown } → above ≡ rows ++ beside ∷ []
      → rows_left key ((grow (tree t).prefix (tree t).value (tree t).children (seen tree row.trees.now), row.base) ∷
      map (row_of tree) (reverse rows))
      ≡ pair_at now (tree t).value ++ rows_left now (rows_of tree below above)
  entered-rows t key now shown p row beside below kids rows above ep en es ek eb ew ea =
      grind (arith, row_of, reverse-append, entered, pair_at, rows_left)
