-- What an insertion changes of a map: the value of one key.
--     updated-behind        a change after a prefix
--     updated-value, updated-children, updated-split        a change of a node's value, of its children, or of a split node
--     updated-insert, updated-set        one more tree of a list, or one that is changed
--     updated-alike, updated-respelled        a change of what is alike, and of an equal key
use Rattle.std.proofs.Common.{◌≡◌, ℕ, zero, suc, ◌<◌, [], ◌∷◌, ◌++◌, List, Option, None, Some, refl}
use Rattle.std.proofs.Common.{arith, true, cond, get_or, set, map, length}
use Rattle.std.specs.Cmp.{IsTotalOrder, Equal-is}
use Rattle.std.specs.Cmp.Lexicographic.{slice_cmp, lists_total}
use Rattle.std.specs.List.{insert}
use Rattle.std.specs.Prelude.{slice_get}
use Rattle.std.specs.declared.cmp.Ordering.{Ordering}
use Rattle.std.specs.declared.cmp.Ordering.TheVariants.{Less, Equal}
use Rattle.vc_tree_model.specs.Key.{same_key}
use Rattle.vc_tree_model.specs.Value.{IsKept}
use Rattle.vc_tree_model.specs.Tree.{Tree, Forest, bare, grow, forest, node}
use Rattle.vc_tree_model.specs.Map.{lookup, lookup_in, IsUpdated}
use Rattle.vc_tree_model.specs.Canonical.{AreChildren}
use Rattle.vc_tree_nodes.specs.Places.{child_first, IsGapAt}
use Rattle.vc_tree_model.proofs.KeyLemmas.{none-some, behind-append, same-append}
use Rattle.vc_tree_model.proofs.KeyLemmas.{same-slice_cmp}
use Rattle.vc_tree_model.proofs.ValueLemmas.{kept-refl, kept-else}
use Rattle.vc_tree_nodes.proofs.Firsts.{above-at, rest-children}

module _ {K V : Type 0} (cmp : K → K → Ordering) (keeps : V → V → Type 0) where
  -- ---- behind a prefix

  module _ (rest : List K) (value : V) (tail : List K) (v w : Option V) (f g : Forest K V)
      (u : IsUpdated cmp keeps rest value (lookup cmp (node tail v f)) (lookup cmp (node [] w g))) where
    -- a change behind a prefix is one of the key with the prefix before it
    pub updated-behind : (p q key : List K) → q ≡ p ++ tail → key ≡ p ++ rest
        → IsUpdated cmp keeps key value (lookup cmp (node q v f)) (lookup cmp (node p w g))
    updated-behind p q key d e = grind (arith, same-append, behind-append)

  -- ---- one node

  module _ (r : (v : V) → keeps v v) where
    -- a node's own value is changed
    pub updated-value : (value : V) (v : Option V) (f : Forest K V)
        → IsUpdated cmp keeps [] value (lookup cmp (node [] v f)) (lookup cmp (node [] (Some value) f))
    updated-value value v f = grind arith

    -- a node's children are changed
    pub updated-children : (y : K) (q : List K) (value : V) (v w : Option V) (f g : Forest K V) → IsKept keeps v w
        → IsUpdated cmp keeps (y ∷ q) value (lookup_in cmp f) (lookup_in cmp g)
        → IsUpdated cmp keeps (y ∷ q) value (lookup cmp (node [] v f)) (lookup cmp (node [] w g))
    updated-children y q value v w f g kept u = grind arith

  -- a change of a node that was put below another
  pub updated-split : (rest : List K) (value : V) (p : List K) (v : Option V) (f : Forest K V) (g : List K → Option V)
      → 0 < length p
      → IsUpdated cmp keeps rest value (lookup cmp (node [] None (grow p v f bare))) g
      → IsUpdated cmp keeps rest value (lookup cmp (node p v f)) g
  updated-split rest value [] v f g h u = absurd (omega arith)
  updated-split rest value (x ∷ p) v f g h u = grind arith

  -- ---- one of a list of trees

  pub lookup-leaf : (key k : List K) (value : V)
      → lookup cmp (node key (Some value) bare) k ≡ cond (same_key cmp key k) (Some value) None
  lookup-leaf (y ∷ key) (z ∷ k) value = grind (arith, lookup-leaf key k value)
  lookup-leaf key k value = grind arith

  module _ (o : IsTotalOrder cmp) (r : (v : V) → keeps v v) where
    -- a leaf before the others
    insert-first : (y : K) (q : List K) (value : V) (f : Forest K V)
        → IsUpdated cmp keeps (y ∷ q) value (lookup_in cmp f) (lookup_in cmp (grow (y ∷ q) (Some value) bare f))
    insert-first y q value f = record {
      at = λ k s. grind (arith, lookup-leaf (y ∷ q) k value);
      others = λ k s. grind (arith, lookup-leaf (y ∷ q) k value, kept-refl);
    }

    -- a change of the later trees, which begin above the first
    change-later : (p : List K) (v : Option V) (kids rest more : Forest K V) (y : K) (q : List K) (value : V)
        → ((z : K) → slice_get p 0 ≡ Some z → cmp z y ≡ Less) → (slice_get p 0 ≡ None → ⊥)
        → IsUpdated cmp keeps (y ∷ q) value (lookup_in cmp rest) (lookup_in cmp more)
        → IsUpdated cmp keeps (y ∷ q) value (lookup_in cmp (grow p v kids rest)) (lookup_in cmp (grow p v kids more))
    change-later [] v kids rest more y q value l n u = absurd (n refl)
    change-later (z ∷ p) v kids rest more y q value l n u = grind arith

    -- one more leaf of a list, at the place of its key
    pub updated-insert : {T : Type 0} (tree : T → Tree K V) (ts : List T) (i : ℕ) (item : T) (y : K) (q : List K)
        (value : V) → tree item ≡ node (y ∷ q) (Some value) bare → IsGapAt cmp (forest (map tree ts)) y i
        → IsUpdated cmp keeps (y ∷ q) value (lookup_in cmp (forest (map tree ts)))
        (lookup_in cmp (forest (map tree (insert ts i item))))
    updated-insert tree ts zero item y q value e gap = grind (arith, insert-first)
    updated-insert tree [] (suc i) item y q value e gap = absurd gap
    updated-insert tree (t ∷ ts) (suc i) item y q value e gap = grind (arith, updated-insert tree ts i item y q value)

    -- one tree of a list is changed, which begins as the key does
    pub updated-set : {T : Type 0} (tree : T → Tree K V) (ts : List T) (i : ℕ) (item d : T) (x y : K) (q : List K)
        (value : V) → child_first (forest (map tree ts)) i ≡ Some x → cmp x y ≡ Equal → AreChildren cmp (forest (map tree ts))
        → IsUpdated cmp keeps (y ∷ q) value (lookup cmp (tree (get_or ts i d))) (lookup cmp (tree item))
        → IsUpdated cmp keeps (y ∷ q) value (lookup_in cmp (forest (map tree ts)))
        (lookup_in cmp (forest (map tree (set ts i item))))
    updated-set tree (t ∷ ts) (suc i) item d x y q value e h a u =
        grind (arith, updated-set tree ts i item d x y q value, change-later, rest-children, none-some, above-at)
    updated-set tree ts i item d x y q value e h a u = grind (arith, none-some, kept-else, kept-refl)

  -- ---- what is alike, and equal keys

  -- a change of what keeps another map is one of that map
  pub updated-alike : ((u v w : V) → keeps u v → keeps v w → keeps u w)
      → (key : List K) (value : V) (f g h : List K → Option V) → ((k : List K) → IsKept keeps (f k) (g k))
      → IsUpdated cmp keeps key value g h → IsUpdated cmp keeps key value f h
  updated-alike t key value f g h kept u = grind arith

  -- an equal key is changed alike
  pub updated-respelled : IsTotalOrder cmp → (j key : List K) (value : V) (f g : List K → Option V)
      → same_key cmp j key ≡ true → IsUpdated cmp keeps j value f g → IsUpdated cmp keeps key value f g
  updated-respelled o j key value f g s u =
      let congr = λ (k : List K). (lists_total o).congr j key k ((Equal-is (slice_cmp cmp j key)).0 (rw same-slice_cmp at s)) in
      grind (arith, same-slice_cmp cmp j, same-slice_cmp cmp key, congr)
