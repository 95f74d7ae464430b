-- What is below a place in the prefix of a tree.
--     goes-on        a key that continues with a component
--     each-fewer, few-below        each tree of a list has no more nodes than the list, and weighs at least one
--     opened-all        where the prefix ended, the children
--     opened-rest        where it continues, the tree itself
--     parts_at        two prefixes diverge where both continue
--     whole-of        a node that stays as it is
use Rattle.std.proofs.Common.{◌≡◌, ℕ, ◌+◌, ◌-◌, ◌<◌, ◌≤◌, [], ◌∷◌, List, Option, Some, is_none}
use Rattle.std.proofs.Common.{arith, map, true, take, drop, length-drop, length, slice_get}
use Rattle.std.proofs.Common.{suc, false}
use Rattle.std.proofs.lemmas.List.{take_all, drop-drop}
use Rattle.std.specs.List.{AllByRecursion}
use Rattle.std.specs.Ordering.{is_eq}
use Rattle.std.specs.declared.cmp.Ordering.{Ordering}
use Rattle.vc_merge.proofs.ListLemmas.{each-weaker}
use Rattle.vc_tree_model.specs.Tree.{Tree, forest, made, nodes, forest_nodes, shortened}
use Rattle.vc_tree_model.specs.Child.{solid_child}
use Rattle.vc_tree_model.specs.Canonical.{IsWhole}
use Rattle.vc_tree_model.specs.Shortened.{forest_weight}
use Rattle.vc_tree_nodes.specs.Parting.{PartsAt}
use Rattle.vc_tree_facing.specs.Facing.{shortened_in, IsOpened, Parts}
use Rattle.vc_tree_facing.proofs.Components.{get-drop}

-- a key that goes on with a component
pub goes-on : {K : Type 0} (n : ℕ) (p : List K) (x : K) → slice_get p n ≡ Some x → (rest : List K) × (drop n p ≡ x ∷ rest)
goes-on (suc n) (y ∷ p) x e = goes-on n p x e
goes-on n p x e = (drop 1 p, grind arith)

-- what is left of a slice
pub slice-from : {K : Type 0} (s whole p : List K) (i : ℕ) → s ≡ take (length whole - i) (drop i whole) → whole ≡ p
    → s ≡ drop i p
slice-from s whole p i h e = grind (arith, take_all, length-drop)

-- each tree of a list has no more nodes than the list
pub each-fewer : {K V T : Type 0} (tree : T → Tree K V) (n : ℕ) (xs : List T)
    → AllByRecursion (λ x. nodes (tree x) ≤ forest_nodes (shortened_in tree n xs)) xs
each-fewer tree n (x ∷ xs) = grind (arith, each-weaker, each-fewer tree n xs)
each-fewer tree n xs = grind arith

module _ {T K V : Type 0} (tree : T → Tree K V) where
  -- where the prefix ended, the children
  pub opened-all : (t : Tree K V) (rest : List K) (xs : List T) → rest ≡ [] → forest (map tree xs) ≡ t.children
      → IsOpened tree t rest xs 0
  opened-all t rest xs r c = grind (arith, each-weaker, each-fewer tree 0 xs)

  -- where it goes on, the tree itself
  pub opened-rest : (x : T) (i n : ℕ) {m : ℕ} → m ≡ i + n → m < length (tree x).prefix
      → IsOpened tree (shortened i (tree x)) (drop n (drop i (tree x).prefix)) (x ∷ []) m
  opened-rest x i n {m} e h =
      grind (arith, length-drop m (tree x).prefix, drop-drop n i (tree x).prefix, get-drop m (tree x).prefix)

-- each tree of a list weighs at least one
pub few-below : {T K V : Type 0} (tree : T → Tree K V) (i : ℕ) (xs : List T) → length xs ≤ forest_weight (shortened_in tree i xs)
few-below tree i (x ∷ xs) = grind (arith, few-below tree i xs)
few-below tree i xs = grind arith

-- two prefixes part where both go on
pub parts_at : {K : Type 0} (cmp : K → K → Ordering) (p q : List K) (n : ℕ) (r : Ordering) → is_eq r ≡ false
    → PartsAt cmp r p q n → Parts cmp (drop n p) (drop n q)
parts_at cmp p q n r unequal h = grind (arith, goes-on)

-- a node with a value, or with at least two children, stays as it is
pub whole-of : {K V T : Type 0} (tree : T → Tree K V) (p : List K) (v : Option V) (xs : List T)
    → (is_none v ≡ true → 2 ≤ length xs)
    → (solid_child p v (forest (map tree xs)) ≡ Some (made p v (map tree xs))) × IsWhole p v (forest (map tree xs))
whole-of tree p v [] h = grind arith
whole-of tree p v (x ∷ []) h = grind arith
whole-of tree p v (x ∷ y ∷ xs) h = grind arith
