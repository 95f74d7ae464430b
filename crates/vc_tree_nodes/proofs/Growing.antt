-- What an insertion keeps of the shape of a tree.
--     alike-first        the first components of lists that are alike
--     not-bare_solid        a value or at least two children
--     solid-insert, children-insert, gap-within, gap-alike        one more tree of a list
--     solid-length, children-set, alike-set        one tree of a list is changed
use Rattle.std.proofs.Common.{◌≡◌, ℕ, zero, suc, ◌≤◌, [], ◌∷◌, List, Option, None, Some}
use Rattle.std.proofs.Common.{arith, false, get_or, set, map, take, length}
use Rattle.std.specs.List.{insert}
use Rattle.std.specs.Prelude.{slice_get}
use Rattle.std.specs.declared.cmp.Ordering.{Ordering}
use Rattle.vc_tree_model.specs.Tree.{Tree, Forest, bare, grow, forest, node, is_bare}
use Rattle.vc_tree_model.specs.Canonical.{IsSolid, IsWhole, AllAbove, AreChildren, IsCanonical}
use Rattle.vc_tree_model.specs.Same.{IsAlike, IsAlikeIn}
use Rattle.vc_tree_nodes.specs.Places.{IsGapAt, child_first}
use Rattle.vc_tree_nodes.specs.Growth.{IsGrown}
use Rattle.vc_tree_model.specs.Snapshot.{alike_refl, kept_itself}
use Rattle.vc_tree_model.proofs.AlikeLemmas.{alike-above}

module _ {K V : Type 0} (keeps : V → V → Type 0) where
  -- alike lists have one first component at each place
  pub alike-first : (f g : Forest K V) (i : ℕ) → IsAlikeIn keeps f g → child_first f i ≡ child_first g i
  alike-first (grow p v kids rest) (grow q w more others) (suc i) h = grind (arith, alike-first rest others i)
  alike-first f g i h = grind arith

module _ {K V : Type 0} where
  -- ---- a value or at least two children

  -- the whole tree is solid where it is not the empty one
  pub not-bare_solid : (t : Tree K V) → IsWhole t.prefix t.value t.children → is_bare t ≡ false → IsSolid t.value t.children
  not-bare_solid t w n = grind arith

  module _ {T : Type 0} (tree : T → Tree K V) where
    -- one more tree beside another makes two
    pub pair-solid : (t : T) (ts : List T) (i : ℕ) (item : T) → IsSolid None (forest (map tree (insert (t ∷ ts) i item)))
    pair-solid t ts zero item = tt
    pair-solid t [] (suc zero) item = tt
    pair-solid t [] (suc (suc i)) item = tt
    pair-solid t (u ∷ ts) (suc zero) item = tt
    pair-solid t (u ∷ ts) (suc (suc i)) item = tt

    -- one more tree of a list leaves it solid
    pub solid-insert : (v : Option V) (ts : List T) (i : ℕ) (item : T) → IsSolid v (forest (map tree ts))
        → IsSolid v (forest (map tree (insert ts i item)))
    solid-insert v ts i item s = grind (arith, pair-solid)

    -- as many trees are as solid
    pub solid-length : (v : Option V) (xs ys : List T) → length xs ≡ length ys → IsSolid v (forest (map tree xs))
        → IsSolid v (forest (map tree ys))
    solid-length v (x ∷ x' ∷ xs) (y ∷ y' ∷ ys) e s = grind arith
    solid-length v xs ys e s = grind arith

  module _ (cmp : K → K → Ordering) where
    -- a tree that is solid over canonical children is canonical
    pub solid-canonical : (p : List K) (v : Option V) (f : Forest K V) → IsSolid v f → AreChildren cmp f
        → IsCanonical cmp (node p v f)
    solid-canonical p v f s a = grind arith

    -- ---- one more tree of a list

    -- a place among trees is one among trees that are alike
    pub gap-alike : (keeps : V → V → Type 0) (f g : Forest K V) (x : K) (i : ℕ) → IsAlikeIn keeps f g
        → IsGapAt cmp f x i → IsGapAt cmp g x i
    gap-alike keeps f g x zero a gap = alike-above keeps cmp x f g a gap
    gap-alike keeps (grow (y ∷ p) v kids rest) (grow q w more others) x (suc i) a gap =
        grind (arith, gap-alike keeps rest others x i)
    gap-alike keeps f g x i a gap = grind arith

    -- canonical children stay so where the later ones do
    pub children-later : (p : List K) (v : Option V) (kids rest more : Forest K V)
        → ((y : K) → slice_get p 0 ≡ Some y → AllAbove cmp y rest → AllAbove cmp y more)
        → (AreChildren cmp rest → AreChildren cmp more) → AreChildren cmp (grow p v kids rest)
        → AreChildren cmp (grow p v kids more)
    children-later p v kids rest more h k a = grind arith

    module _ {T : Type 0} (tree : T → Tree K V) where
      -- a place among trees is within the list
      pub gap-within : (ts : List T) (x : K) (i : ℕ) → IsGapAt cmp (forest (map tree ts)) x i → i ≤ length ts
      gap-within (t ∷ ts) x (suc i) gap = grind (arith, gap-within ts x i)
      gap-within [] x (suc i) gap = absurd gap
      gap-within ts x zero gap = omega arith

      -- the trees and one more above x are above x
      above-insert : (x : K) (ts : List T) (i : ℕ) (item : T)
          → AllAbove cmp x (grow (tree item).prefix (tree item).value (tree item).children bare)
          → AllAbove cmp x (forest (map tree ts)) → AllAbove cmp x (forest (map tree (insert ts i item)))
      above-insert x (t ∷ ts) (suc i) item a b = grind (arith, above-insert x ts i item)
      above-insert x [] (suc i) item a b = a
      above-insert x ts zero item a b = grind arith

      -- canonical children and a leaf at its place are canonical children
      pub children-insert : (ts : List T) (i : ℕ) (item : T) (y : K) (q : List K) (value : V)
          → tree item ≡ node (y ∷ q) (Some value) bare → IsGapAt cmp (forest (map tree ts)) y i
          → AreChildren cmp (forest (map tree ts)) → AreChildren cmp (forest (map tree (insert ts i item)))
      children-insert (t ∷ ts) (suc i) item y q value e gap a =
          grind (arith, children-insert ts i item y q value, children-later, above-insert)
      children-insert [] (suc i) item y q value e gap a = absurd gap
      children-insert ts zero item y q value e gap a = grind arith

      -- ---- one tree of a list is changed

      -- trees above x stay so where one goes on as it did
      above-set : (x : K) (ts : List T) (i : ℕ) (item d : T)
          → take 1 (tree item).prefix ≡ take 1 (tree (get_or ts i d)).prefix
          → AllAbove cmp x (forest (map tree ts)) → AllAbove cmp x (forest (map tree (set ts i item)))
      above-set x (t ∷ ts) (suc i) item d e a = grind (arith, above-set x ts i item d)
      above-set x ts i item d e a = grind arith

      -- canonical children stay so where one of them grows
      pub children-set : (ts : List T) (i : ℕ) (item d : T) → IsGrown cmp 1 (tree (get_or ts i d)) (tree item)
          → AreChildren cmp (forest (map tree ts)) → AreChildren cmp (forest (map tree (set ts i item)))
      children-set (t ∷ ts) (suc i) item d g a =
          children-later (tree t).prefix (tree t).value (tree t).children (forest (map tree ts))
          (forest (map tree (set ts i item))) (λ z f. above-set z ts i item d g.begins) (children-set ts i item d g) a
      children-set ts i item d g a = grind arith

  -- a list of trees is alike where one is put in the place of one that is alike
  pub alike-set : (keeps : V → V → Type 0) → ((v : V) → keeps v v)
      → {T : Type 0} (tree : T → Tree K V) (ts : List T) (i : ℕ) (item d : T)
      → IsAlike keeps (tree (get_or ts i d)) (tree item)
      → IsAlikeIn keeps (forest (map tree ts)) (forest (map tree (set ts i item)))
  alike-set keeps r tree (t ∷ ts) (suc i) item d h = grind (arith, alike-set keeps r tree ts i item d, alike_refl, kept_itself)
  alike-set keeps r tree ts i item d h = grind (arith, alike_refl)
