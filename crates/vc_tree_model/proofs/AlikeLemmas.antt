-- Trees that are alike: the same nodes with the same prefixes, and values that are kept.
--     alike-trans, alike-push, alike-more        how trees are alike
--     alike-solid, alike-children, alike-canonical, tree-alike_canonical        what two that are alike share
--     alike-nodes, alike-lookup, tree-alike_lookup        how many nodes, and the map
--     snapshot-canonical        what a snapshot of a canonical tree is
use Rattle.std.proofs.Common.{◌≡◌, ℕ, ◌+◌, ◌<◌, List, [], ◌∷◌, ◌++◌, get_or, length, map, take, Option}
use Rattle.std.proofs.Common.{sym, ap, ◌∙◌, arith}
use Rattle.std.proofs.lemmas.List.{take_more}
use Rattle.std.specs.declared.cmp.Ordering.{Ordering}
use Rattle.vc_tree_model.specs.Value.{IsKept}
use Rattle.vc_tree_model.specs.Tree.{Tree, Forest, grow, forest, node, shared_forest, forest_nodes}
use Rattle.vc_tree_model.specs.Map.{node_lookup, lookup, lookup_in, IsEqualMap}
use Rattle.vc_tree_model.specs.Canonical.{IsSolid, IsWhole, AllAbove, AreChildren, IsCanonical}
use Rattle.vc_tree_model.specs.Same.{IsAlike, IsAlikeIn}

module _ {K V : Type 0} (keeps : V → V → Type 0) where
  -- ---- how trees are alike

  -- what is alike to an alike list is alike to the first
  pub alike-trans : ((u v w : V) → keeps u v → keeps v w → keeps u w) → (f g h : Forest K V) → IsAlikeIn keeps f g
      → IsAlikeIn keeps g h → IsAlikeIn keeps f h
  alike-trans t (grow p v kids rest) (grow q w more others) (grow q' w' more' others') a b =
      grind (arith, alike-trans t kids more more' a.2 b.2, alike-trans t rest others others' a.3 b.3)
  alike-trans t f g h a b = grind arith

  -- one more tree behind two lists that are alike
  pub alike-push : {S T : Type 0} (s : S → Tree K V) (t : T → Tree K V) (xs : List S) (ys : List T) (x : S) (y : T)
      → IsAlikeIn keeps (forest (map s xs)) (forest (map t ys)) → IsAlike keeps (s x) (t y)
      → IsAlikeIn keeps (forest (map s (xs ++ x ∷ []))) (forest (map t (ys ++ y ∷ [])))
  alike-push s t [] [] x y a h = (h.0, h.1, h.2, tt)
  alike-push s t (x' ∷ xs) (y' ∷ ys) x y a h = grind (arith, alike-push s t xs ys x y)
  alike-push s t z u x y a h = absurd a

  -- the trees up to a place of a list, and one more, are copied
  pub alike-more : {S T : Type 0} (s : S → Tree K V) (t : T → Tree K V) (xs : List S) (ys zs : List T) (i : ℕ) (x : S)
      (y : T) → i < length xs → x ≡ get_or xs i x → zs ≡ ys ++ y ∷ []
      → IsAlikeIn keeps (forest (map s (take i xs))) (forest (map t ys)) → IsAlike keeps (s x) (t y)
      → IsAlikeIn keeps (forest (map s (take (i + 1) xs))) (forest (map t zs))
  alike-more s t xs ys zs i x y h e z a b =
      let one_more : take (i + 1) xs ≡ take i xs ++ x ∷ [] =
      take_more xs i x h ∙ ap (λ l. take i xs ++ l ∷ []) (sym e) in
      rw (one_more, z) (alike-push s t (take i xs) ys x y a b)

  -- ---- what two that are alike share

  -- a value or at least two children
  pub alike-solid : (v w : Option V) (f g : Forest K V) → IsKept keeps v w → IsAlikeIn keeps f g → IsSolid v f → IsSolid w g
  alike-solid v w f g h k s = grind arith

  -- what may be the whole tree
  alike-whole : (p : List K) (v w : Option V) (f g : Forest K V) → IsKept keeps v w → IsAlikeIn keeps f g
      → IsWhole p v f → IsWhole p w g
  alike-whole p v w f g k a h = grind arith

  -- how many nodes there are
  pub alike-nodes : (f g : Forest K V) → IsAlikeIn keeps f g → forest_nodes f ≡ forest_nodes g
  alike-nodes (grow p v kids rest) (grow q w more others) h = grind (arith, alike-nodes kids more, alike-nodes rest others)
  alike-nodes f g h = grind arith

  module _ (cmp : K → K → Ordering) where
    -- what all begin above
    pub alike-above : (x : K) (f g : Forest K V) → IsAlikeIn keeps f g → AllAbove cmp x f → AllAbove cmp x g
    alike-above x (grow (y ∷ p) v kids rest) (grow q w more others) h a = grind (arith, alike-above x rest others)
    alike-above x f g h a = grind arith

    -- being canonical children
    pub alike-children : (f g : Forest K V) → IsAlikeIn keeps f g → AreChildren cmp f → AreChildren cmp g
    alike-children (grow (y ∷ p) v kids rest) (grow q w more others) h a =
        grind (arith, alike-children kids more, alike-children rest others, alike-solid, alike-above)
    alike-children f g h a = grind arith

    -- being canonical
    pub alike-canonical : (p : List K) (v w : Option V) (f g : Forest K V) → IsKept keeps v w → IsAlikeIn keeps f g
        → IsCanonical cmp (node p v f) → IsCanonical cmp (node p w g)
    alike-canonical p v w f g k a h = grind (arith, alike-whole, alike-children)

    -- and so of a tree
    pub tree-alike_canonical : (t u : Tree K V) → IsAlike keeps t u → IsCanonical cmp t → IsCanonical cmp u
    tree-alike_canonical t u h c = rw (← h.0) (alike-canonical t.prefix t.value u.value t.children u.children h.1 h.2 c)

    -- what a node has at what is left of a key
    pub kept-lookup : (o : Option (List K)) (v w : Option V) (f g : List K → Option V) → IsKept keeps v w
        → ((k : List K) → IsKept keeps (f k) (g k)) → IsKept keeps (node_lookup v f o) (node_lookup w g o)
    kept-lookup o v w f g h k = grind arith

    -- the map
    pub alike-lookup : (f g : Forest K V) → IsAlikeIn keeps f g → (k : List K)
        → IsKept keeps (lookup_in cmp f k) (lookup_in cmp g k)
    alike-lookup (grow p v kids rest) (grow q w more others) h k = grind (arith, alike-lookup kids more, alike-lookup rest others)
    alike-lookup f g h k = grind arith

    -- the map of a tree
    pub tree-alike_lookup : (t u : Tree K V) → IsAlike keeps t u → IsEqualMap keeps (lookup cmp t) (lookup cmp u)
    tree-alike_lookup t u h k = grind (arith, kept-lookup, alike-lookup)

-- ---- snapshots

module _ {K V : Type 0} (is_clone : V → V → Type 0) where
  -- a snapshot of a canonical tree is canonical
  pub snapshot-canonical : {R X : Type 0} (val : R → X) (list : X → List (Tree K V)) (cmp : K → K → Ordering)
      (p q : List K) (v w : Option V) (o u : Option R)
      → q ≡ p → IsKept is_clone v w → IsKept (λ a b. val b ≡ val a) o u
      → IsCanonical cmp (node p v (shared_forest (λ r. list (val r)) o))
      → IsCanonical cmp (node q w (shared_forest (λ r. list (val r)) u))
  snapshot-canonical val list cmp p q v w o u e k s h = grind arith
