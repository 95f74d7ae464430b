-- What a step to a tree does to the values that are left.
--     first-value        the values of a row are those of its first tree, and then the others
--     entered-values, entered-last        a step to a tree with children, with rows as the iterator stores them
--     before-start        what is left behind all rows stays after them
use Rattle.std.proofs.Common.{◌≡◌, List, [], ◌∷◌, ◌++◌, ◌∙◌, ap, map, sym, Option, refl, append_assoc, arith}
use Rattle.std.proofs.lemmas.List.{map-append, reverse-append}
use Rattle.std.specs.Prelude.{reverse}
use Rattle.std.specs.Borrow.{Bor}
use Rattle.vc_tree_model.specs.Tree.{Tree, Forest, grow}
use Rattle.vc_tree_model.specs.Walk.{own_pair, prepended, walk_in}
use Rattle.vc_tree_nodes.specs.Children.{seen}
use Rattle.vc_tree_walks.specs.ValuesLeft.{own_value, rows_values, rows_of}

module _ {K V : Type 0} where
  -- a prefix before the keys changes no value
  values-prepended : (p : List K) (l : List (List K × V)) → map (λ b. b.1) (map (prepended p) l) ≡ map (λ b. b.1) l
  values-prepended p [] = refl
  values-prepended p (b ∷ l) = grind (arith, values-prepended p l)

  -- a node's own value before those of its children
  values-own : (v : Option V) (l : List (List K × V)) → map (λ b. b.1) (own_pair v ++ l) ≡ own_value v ++ map (λ b. b.1) l
  values-own v l = grind arith

  -- the values of a tree are its own, and then those of its children
  pub tree-values : (p : List K) (v : Option V) (kids : Forest K V)
      → map (λ b. b.1) (map (prepended p) (own_pair v ++ walk_in kids)) ≡ own_value v ++ map (λ b. b.1) (walk_in kids)
  tree-values p v kids = grind (arith, values-prepended, values-own)

  -- the values of a row are those of its first tree, and then the others
  pub first-value : (p : List K) (v : Option V) (kids others : Forest K V) (m : List V)
      → map (λ b. b.1) (walk_in (grow p v kids others)) ++ m
      ≡ own_value v ++ (map (λ b. b.1) (walk_in kids) ++ (map (λ b. b.1) (walk_in others) ++ m))
  first-value p v kids others m = grind (arith, own_pair, walk_in, map-append, tree-values, append_assoc, own_value)

-- a step to a tree with children, with rows as the iterator stores them
pub entered-values : {K V T : Type 0} (tree : T → Tree K V) (t : T) (row kids beside below : Bor (List T))
    → (rows above : List (Bor (List T))) → seen tree kids.now ≡ (tree t).children → beside ≡ row → below ≡ kids
    → above ≡ rows ++ beside ∷ []
    → rows_values ((grow (tree t).prefix (tree t).value (tree t).children (seen tree row.now), 0) ∷ map
    (λ r. (seen tree r.now, 0)) (reverse rows))
    ≡ own_value (tree t).value ++ rows_values (rows_of tree below.now above)
entered-values tree t row kids beside below rows above ek eb ew ea =
    grind (arith, reverse-append, first-value, rows_values, own_value)

-- a step to such a tree beside which none is left
pub entered-last : {K V T : Type 0} (tree : T → Tree K V) (t : T) (row kids below : Bor (List T))
    → (rows : List (Bor (List T))) → seen tree kids.now ≡ (tree t).children → row.now ≡ [] → below ≡ kids
    → rows_values ((grow (tree t).prefix (tree t).value (tree t).children (seen tree row.now), 0) ∷ map
    (λ r. (seen tree r.now, 0)) (reverse rows))
    ≡ own_value (tree t).value ++ rows_values (rows_of tree below.now rows)
entered-last tree t row kids below rows ek er ew =
    let own = own_value (tree t).value in
    let outer = rows_values (map (λ r. (seen tree r.now, 0)) (reverse rows)) in
    let below-tree = map (λ b. b.1) (walk_in (tree t).children) in
    first-value (tree t).prefix (tree t).value (tree t).children (seen tree row.now) outer
    ∙ ap (λ r. own ++ (below-tree ++ (map (λ b. b.1) (walk_in (seen tree r)) ++ outer))) er
    ∙ ap (λ f. own ++ (map (λ b. b.1) (walk_in f) ++ outer)) (sym ek ∙ ap (λ b. seen tree b.now) (sym ew))

-- what is left behind all rows stays behind them
pub before-start : {V : Type 0} (l own rest start : List V) → l ≡ own ++ rest → l ++ start ≡ own ++ (rest ++ start)
before-start l own rest start e = ap (λ x. x ++ start) e ∙ append_assoc own rest start
