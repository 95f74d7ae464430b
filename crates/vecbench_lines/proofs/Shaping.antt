-- Shapes of trees that are written one after another.
use Rattle.std.proofs.Common.{arith, ◌≡◌, ◌∙◌, ap, sym, refl, subst, ℕ, zero, suc, ◌-◌, ◌<◌, ◌≤◌, List, [], ◌∷◌, ◌++◌}
use Rattle.std.proofs.Common.{length, take, drop, get_or, Result, OnOk}
use Rattle.std.proofs.lemmas.List.{append_assoc}
use Rattle.std.proofs.Math.Seq.{take-length}
use Rattle.std.specs.List.{flat_map}
use Rattle.vec_collections.specs.Children.{seen}
use Rattle.vec_collections.specs.Tree.{Tree, nodes, forest_nodes}
use Rattle.vecbench_lines.specs.Shapes.{in_parentheses, shapes_text, shape_text}
use Rattle.vecbench_lines.proofs.Cutting.{take-drop_rest}
use Rattle.vecbench_lines.proofs.Replying.{on_ok-map}

-- what is written piece by piece is the prefix, the mark and the children in parentheses
pub pieces-written : {E : Type 0} {keyed marked opened begun done children : List ℕ} (old prefix mark first others : List ℕ)
    (r : Result (Unit {0}) E) (new : List ℕ)
    → keyed ≡ old ++ prefix → marked ≡ keyed ++ mark → opened ≡ marked ++ 40 ∷ [] → begun ≡ opened ++ first → done
    ≡ begun ++ others
    → children ≡ 40 ∷ ((first ++ others) ++ 41 ∷ []) → OnOk r (new ≡ done ++ 41 ∷ [])
    → OnOk r (new ≡ old ++ (prefix ++ mark ++ children))
pieces-written {E} {keyed} {marked} {opened} {begun} {done} {children} old prefix mark first others r new e1 e2 e3 e4 e5 e6 closed =
    let start : List ℕ = (old ++ prefix) ++ mark in
    let pieces : done ≡ ((start ++ 40 ∷ []) ++ first) ++ others =
    e5 ∙ ap (λ l. l ++ others) (e4 ∙ ap (λ l. l ++ first) (e3 ∙ ap (λ l. l ++ 40 ∷ []) (e2 ∙ ap (λ l. l ++ mark) e1))) in
    on_ok-map r (λ is. is ∙ ap (λ l. l ++ 41 ∷ []) (pieces ∙ append_assoc (start ++ 40 ∷ []) first others) ∙
    append_assoc (start ++ 40 ∷ []) (first ++ others) (41 ∷ []) ∙ append_assoc start (40 ∷ []) ((first ++ others) ++ 41 ∷ []) ∙
    ap (λ l. start ++ l) (sym e6) ∙ ap (λ l. l ++ children) (append_assoc old prefix mark)
    ∙ append_assoc old (prefix ++ mark) children) closed

module _ {X V : Type 0} (tree : X → Tree ℕ V) where
  -- no tree of a list has more nodes than the list
  item-nodes : (xs : List X) (i : ℕ) (x : X) → i < length xs → x ≡ get_or xs i x → nodes (tree x) ≤ forest_nodes (seen tree xs)
  item-nodes [] i x within is = absurd (omega (arith, within))
  item-nodes (y ∷ ys) zero x within is = let same : nodes (tree x) ≡ nodes (tree y) = ap (λ z. nodes (tree z)) is in
      omega (arith, same)
  item-nodes (y ∷ ys) (suc i) x within is =
      let below : nodes (tree x) ≤ forest_nodes (seen tree ys) = item-nodes ys i x (omega (arith, within)) is in
      omega (arith, below)

  -- a child behind the first one has fewer nodes than the tree
  pub child-falls : (xs : List X) (t : Tree ℕ V) (i : ℕ) (x : X) → seen tree xs ≡ t.children
      → i < length (take (length xs - 1) (drop 1 xs))
      → x ≡ get_or (take (length xs - 1) (drop 1 xs)) i x → nodes (tree x) < nodes t
  child-falls [] t i x kids within is = absurd (omega (arith, within))
  child-falls (y ∷ ys) t i x kids within is =
      let others : take (length (y ∷ ys) - 1) (drop 1 (y ∷ ys)) ≡ ys = take-drop_rest 1 (y ∷ ys) in
      let below : nodes (tree x) ≤ forest_nodes (seen tree ys) =
      item-nodes ys i x (subst (λ l. i < length l) others within) (subst (λ l. x ≡ get_or l i x) others is) in
      let whole : forest_nodes (seen tree (y ∷ ys)) ≡ forest_nodes t.children = ap forest_nodes kids in
      omega (arith, below, whole)

  -- the shapes of a list of trees, tree by tree
  shapes-listed : (xs : List X) → shapes_text (seen tree xs) ≡ flat_map (λ x. 32 ∷ shape_text (tree x)) xs
  shapes-listed [] = refl
  shapes-listed (x ∷ xs) = ap (λ more. 32 ∷ (shape_text (tree x) ++ more)) (shapes-listed xs)

  -- the shapes of children in parentheses, once the first one and those behind it are written
  pub children-written : (xs : List X) (t : Tree ℕ V) (first : X) (i : ℕ) → seen tree xs ≡ t.children → 1 ≤ length xs
      → first ≡ get_or xs 0 first
      → i ≤ length (take (length xs - 1) (drop 1 xs)) → length (take (length xs - 1) (drop 1 xs)) ≤ i
      → in_parentheses (shapes_text t.children)
      ≡ 40 ∷ ((shape_text (tree first) ++ flat_map (λ x. 32 ∷ shape_text (tree x))
      (take i (take (length xs - 1) (drop 1 xs)))) ++ 41 ∷ [])
  children-written [] t first i kids some is below above = absurd (omega (arith, some))
  children-written (y ∷ ys) t first i kids some is below above =
      let others : List X = take (length (y ∷ ys) - 1) (drop 1 (y ∷ ys)) in
      let whole : i ≡ length others = omega (arith, below, above) in
      let all : take i others ≡ ys = ap (λ n. take n others) whole ∙ take-length others ∙ take-drop_rest 1 (y ∷ ys) in
      ap (λ f. in_parentheses (shapes_text f)) (sym kids) ∙
      ap (λ more. 40 ∷ ((shape_text (tree y) ++ more) ++ 41 ∷ []))
      (shapes-listed ys ∙ ap (flat_map (λ x. 32 ∷ shape_text (tree x))) (sym all)) ∙
      ap (λ z. 40 ∷ ((shape_text (tree z) ++ flat_map (λ x. 32 ∷ shape_text (tree x)) (take i others)) ++ 41 ∷ [])) (sym is)
