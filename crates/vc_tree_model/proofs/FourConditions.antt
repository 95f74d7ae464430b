-- The form from node to children says what the conditions on all nodes say.
--     meets-ordered        the two conditions on prefixes
--     canonical-meets, meets-canonical        all four
--     canonical-conditions        both ways
use Rattle.std.proofs.Common.{◌≡◌, ◌≢◌, ℕ, suc, ◌<◌, [], ◌∷◌, List, length, get_or, Option, refl}
use Rattle.std.proofs.Common.{true, inl, inr, ◌↔◌, suc-le-suc, arith}
use Rattle.std.specs.Prelude.{All, AllPairs, IsNone}
use Rattle.std.specs.declared.cmp.Ordering.{Ordering}
use Rattle.vc_tree_model.specs.Key.{BeginsBelow}
use Rattle.vc_tree_model.specs.Tree.{Tree, Forest, bare, grow, node, trees, lacks_both, is_bare}
use Rattle.vc_tree_model.specs.Canonical.{AllAbove, AreOrdered, AreChildren, IsSolid, IsWhole, IsCanonical}
use Rattle.vc_tree_model.specs.Conditions.{IsBelow, BareIsWhole, HavePrefixes, ChildrenAscend, NoLoneChild}
use Rattle.vc_tree_model.specs.Conditions.{MeetsConditions, IsOrdered}
use Rattle.vc_tree_model.proofs.LookupLemmas.{children-ordered}

module _ {K V : Type 0} where
  -- ---- one node

  -- a solid node has a value or a child
  solid-not_bare : (v : Option V) (f : Forest K V) → IsSolid v f → lacks_both v f ≡ true → ⊥
  solid-not_bare v f s h = grind arith

  -- a solid node without a value has no lone child
  solid-not_lone : (v : Option V) (f : Forest K V) → IsSolid v f → IsNone v → length (trees f) ≢ 1
  solid-not_lone v f s n e = grind arith

  -- a node is solid where it has a value or a child, and no lone child without a value
  solid-from : (v : Option V) (f : Forest K V) → (lacks_both v f ≡ true → ⊥) → (IsNone v → length (trees f) ≢ 1)
      → IsSolid v f
  solid-from v f b l = grind arith

  -- ---- what holds of each tree of a list and of all below

  -- a fact on the parts of a node holds of the node that has them
  on-node : (P : List K → Option V → Forest K V → Type 0) (n : Tree K V) (p : List K) (v : Option V) (f : Forest K V)
      → n ≡ node p v f → P p v f → P n.prefix n.value n.children
  on-node P n p v f e h = grind arith

  module _ (cmp : K → K → Ordering) where
    -- no prefix below is empty
    below-prefix : (f : Forest K V) → AreOrdered cmp f → (n : Tree K V) → IsBelow n f → n.prefix ≢ []
    below-prefix (grow (x ∷ p) v kids rest) a n (inl (inl e)) = grind arith
    below-prefix (grow (x ∷ p) v kids rest) a n (inl (inr b)) = below-prefix kids a.0 n b
    below-prefix (grow (x ∷ p) v kids rest) a n (inr b) = below-prefix rest a.2 n b
    below-prefix f a n b = grind arith

    -- the children of each node below are in order
    below-ordered : (f : Forest K V) → AreOrdered cmp f → (n : Tree K V) → IsBelow n f → AreOrdered cmp n.children
    below-ordered (grow (x ∷ p) v kids rest) a n (inl (inl e)) = grind arith
    below-ordered (grow (x ∷ p) v kids rest) a n (inl (inr b)) = below-ordered kids a.0 n b
    below-ordered (grow (x ∷ p) v kids rest) a n (inr b) = below-ordered rest a.2 n b
    below-ordered f a n b = grind arith

    -- each node below is solid
    below-solid : (f : Forest K V) → AreChildren cmp f → (n : Tree K V) → IsBelow n f → IsSolid n.value n.children
    below-solid (grow (x ∷ p) v kids rest) a n (inl (inl e)) = grind arith
    below-solid (grow (x ∷ p) v kids rest) a n (inl (inr b)) = below-solid kids a.1 n b
    below-solid (grow (x ∷ p) v kids rest) a n (inr b) = below-solid rest a.3 n b
    below-solid f a n b = grind arith

    -- ---- siblings that ascend

    -- one tree begins below another
    abbrev Ascends : Tree K V → Tree K V → Type 0
    Ascends c d = BeginsBelow cmp c.prefix d.prefix

    -- what begins with x begins below each tree above x
    above-all : (c : Tree K V) (x : K) (p : List K) (f : Forest K V) → c.prefix ≡ x ∷ p → AllAbove cmp x f
        → All (Ascends c) (trees f)
    above-all c x p (grow (y ∷ q) v kids rest) e a = grind (arith, above-all c x p rest)
    above-all c x p f e a = grind arith

    -- trees in order ascend
    ordered-ascend : (f : Forest K V) → AreOrdered cmp f → AllPairs Ascends (trees f)
    ordered-ascend bare a = grind arith
    ordered-ascend (grow [] v kids rest) a = absurd a
    ordered-ascend (grow (x ∷ p) v kids rest) a =
        grind (arith, above-all (node (x ∷ p) v kids) x p rest refl a.1, ordered-ascend rest a.2)

    -- trees that all begin above x, where no prefix is empty
    all-above : (x : K) (p : List K) (f : Forest K V) → ((n : Tree K V) → IsBelow n f → n.prefix ≢ [])
        → ((j : ℕ) (d : Tree K V) → j < length (trees f) → BeginsBelow cmp (x ∷ p) (get_or (trees f) j d).prefix)
        → AllAbove cmp x f
    all-above x p bare e h = tt
    all-above x p (grow [] v kids rest) e h = absurd (e (node [] v kids) (inl (inl refl)) refl)
    all-above x p (grow (y ∷ q) v kids rest) e h = (
      h 0 (node (y ∷ q) v kids) (omega arith),
      all-above x p rest (λ n b. e n (inr b)) (λ j d l. h (suc j) d (suc-le-suc l)),
    )

    -- trees are in order where no prefix below is empty, and siblings ascend everywhere
    ordered-from : (f : Forest K V) → ((n : Tree K V) → IsBelow n f → n.prefix ≢ []) → AllPairs Ascends (trees f)
        → ((n : Tree K V) → IsBelow n f → AllPairs Ascends (trees n.children)) → AreOrdered cmp f
    ordered-from bare e a h = tt
    ordered-from (grow [] v kids rest) e a h = absurd (e (node [] v kids) (inl (inl refl)) refl)
    ordered-from (grow (x ∷ p) v kids rest) e a h = (
      ordered-from kids (λ n b. e n (inl (inr b))) (h (node (x ∷ p) v kids) (inl (inl refl)))
          (λ n b. h n (inl (inr b))),
      all-above x p rest (λ n b. e n (inr b)) (λ j d l. a 0 (suc j) d (omega arith) (suc-le-suc l)),
      ordered-from rest (λ n b. e n (inr b)) (λ i j d l m. a (suc i) (suc j) d (suc-le-suc l) (suc-le-suc m))
          (λ n b. h n (inr b)),
    )

    -- trees in order whose nodes are all solid are canonical children
    children-from : (f : Forest K V) → AreOrdered cmp f → ((n : Tree K V) → IsBelow n f → IsSolid n.value n.children)
        → AreChildren cmp f
    children-from (grow (x ∷ p) v kids rest) a s = (
      s (node (x ∷ p) v kids) (inl (inl refl)),
      children-from kids a.0 (λ n b. s n (inl (inr b))),
      a.1,
      children-from rest a.2 (λ n b. s n (inr b)),
    )
    children-from f a s = grind arith

    -- ---- the two conditions on prefixes

    -- where children are in order, no prefix is empty
    ordered-prefixes : (t : Tree K V) → AreOrdered cmp t.children → HavePrefixes t
    ordered-prefixes t a c b = below-prefix t.children a c b

    -- and siblings ascend
    ordered-ascending : (t : Tree K V) → AreOrdered cmp t.children → ChildrenAscend cmp t
    ordered-ascending t a n (inl e) = grind (arith, ordered-ascend, on-node)
    ordered-ascending t a n (inr b) = grind (arith, ordered-ascend, below-ordered)

    -- where both are met, children are in order
    pub meets-ordered : (t : Tree K V) → IsOrdered cmp t → AreOrdered cmp t.children
    meets-ordered t m = grind (arith, ordered-from)

    -- ---- all four conditions

    -- a whole tree without a value has no lone child
    whole-not_lone : (p : List K) (v : Option V) (f : Forest K V) → IsWhole p v f → IsNone v → length (trees f) ≢ 1
    whole-not_lone p v f w n e = grind arith

    -- in a canonical tree a bare node is the whole
    canonical-bare : (t : Tree K V) → IsCanonical cmp t → BareIsWhole t
    canonical-bare t c n (inl e) h = grind arith
    canonical-bare t c n (inr b) h = grind (arith, solid-not_bare, below-solid)

    -- and none without a value has a lone child
    canonical-no_lone : (t : Tree K V) → IsCanonical cmp t → NoLoneChild t
    canonical-no_lone t c n h = grind (arith, on-node, whole-not_lone, solid-not_lone, below-solid)

    -- a canonical tree meets the four conditions
    pub canonical-meets : (t : Tree K V) → IsCanonical cmp t → MeetsConditions cmp t
    canonical-meets t c = record {
      bare_is_whole = canonical-bare t c;
      prefixes = ordered-prefixes t (children-ordered cmp t.children c.1);
      ascending = ordered-ascending t (children-ordered cmp t.children c.1);
      no_lone_child = canonical-no_lone t c;
    }

    -- no bare node lies below: it would be the whole, which has children
    bare-not_below : (t : Tree K V) → BareIsWhole t → (n : Tree K V) → IsBelow n t.children → is_bare n ≡ true → ⊥
    bare-not_below t w n b h = grind arith

    -- a whole tree, from two of the conditions
    whole-from : (p : List K) (v : Option V) (f : Forest K V) → (lacks_both v f ≡ true → p ≡ [])
        → (IsNone v → length (trees f) ≢ 1) → IsWhole p v f
    whole-from p v f b l = grind arith

    -- a tree that meets the four conditions is canonical
    pub meets-canonical : (t : Tree K V) → MeetsConditions cmp t → IsCanonical cmp t
    meets-canonical t m = (
      whole-from t.prefix t.value t.children (λ h. (m.bare_is_whole t (inl refl) h).1) (m.no_lone_child t (inl refl)),
      children-from t.children (meets-ordered t (record { prefixes = m.prefixes; ascending = m.ascending }))
          (λ n b. solid-from n.value n.children (bare-not_below t m.bare_is_whole n b) (m.no_lone_child n (inr b))),
    )

    -- a tree is canonical exactly where it meets the four conditions
    pub canonical-conditions : (t : Tree K V) → IsCanonical cmp t ↔ MeetsConditions cmp t
    canonical-conditions t = (canonical-meets t, meets-canonical t)
