-- Canonical trees are the same exactly where their maps are equal.
--     parts        equal maps of two solid nodes give equal prefixes, matching values and equal maps below
--     apart        equal maps of two lists of trees give equal maps of the first trees and of the others
--     same-in, canonical-same        so canonical trees of equal maps are the same, tree by tree
--     equal-in, same-equal        trees that are the same have equal maps
--     canonical-unique, canonical-one        both ways, and as a fact of one tree
use Rattle.std.proofs.Common.{◌≡◌, [], ◌∷◌, ◌++◌, List, Option, None, Some, refl, sym, ap, ◌∙◌, true, Bool, arith}
use Rattle.std.proofs.Common.{true≢false, ◌⊎◌, inl, inr, ◌↔◌}
use Rattle.std.specs.declared.cmp.Ordering.{Ordering}
use Rattle.std.specs.declared.cmp.Ordering.TheVariants.{Less, Equal, Greater}
use Rattle.std.specs.Ordering.{is_eq}
use Rattle.std.specs.Cmp.{IsTotalOrder, tied_back, tied_itself}
use Rattle.vc_tree_model.specs.Key.{same_key}
use Rattle.vc_tree_model.specs.Value.{IsKept}
use Rattle.vc_tree_model.specs.Tree.{Tree, Forest, bare, grow, node}
use Rattle.vc_tree_model.specs.Map.{node_lookup, lookup, lookup_in, IsEqualMap}
use Rattle.vc_tree_model.specs.Canonical.{AllAbove, AreChildren, IsSolid, IsCanonical}
use Rattle.vc_tree_model.specs.Same.{IsSameIn, IsSame}
use Rattle.vc_tree_model.specs.OneTree.{IsOneTree}
use Rattle.vc_tree_model.proofs.KeyLemmas.{none-some, less, behind-same}
use Rattle.vc_tree_model.proofs.ValueLemmas.{kept_by, kept-else, bound-left, not-lost, maps-flip}
use Rattle.vc_tree_model.proofs.LookupLemmas.{children-ordered, lookup_in-empty, lookup-equal, lookup-other}
use Rattle.vc_tree_model.proofs.LookupLemmas.{lookup-begins, lookup_in-skip, above-less, above-equal, lookup_in-above}
use Rattle.vc_tree_model.proofs.LookupLemmas.{first-bound, tree-bound, AreNothing, whole-cases, nothing-bound}

module _ {K V : Type 0} (cmp : K → K → Ordering) (o : IsTotalOrder cmp) where
  -- ---- what one side alone binds

  module _ (matches : V → V → Type 0) where
    -- two children bind keys that begin differently, and a prefix begins in one way
    two-firsts : (x y z : K) (p q r : List K) (v w u : Option V) (f more most rest : Forest K V)
        → AreChildren cmp (grow (y ∷ q) w more (grow (z ∷ r) u most rest))
        → IsEqualMap matches (lookup cmp (node (x ∷ p) v f))
        (lookup cmp (node [] None (grow (y ∷ q) w more (grow (z ∷ r) u most rest)))) → ⊥
    two-firsts x y z p q r v w u f more most rest a h =
        let b = first-bound cmp o (grow (y ∷ q) w more (grow (z ∷ r) u most rest)) a in
        let c = first-bound cmp o (grow (z ∷ r) u most rest) a.3 in
        let xy = begins y b.key b.value b.is in
        let xz = begins z c.key c.value (rw a.2.0 c.is) in
        absurd (true≢false (ap is_eq (sym xz ∙ o.congr x y z xy ∙ a.2.0)))
      where
        begins : (first : K) (k : List K) (a : V)
            → lookup_in cmp (grow (y ∷ q) w more (grow (z ∷ r) u most rest)) (first ∷ k) ≡ Some a
            → cmp x first ≡ Equal
        begins first k a e =
            let b = bound-left matches _ _ a (h (first ∷ k)) e in lookup-begins cmp x first p k v f b.0 b.1

    -- keys that all begin with x are not those of a solid node with an empty prefix
    no-longer : (x : K) (p : List K) (v w : Option V) (f g : Forest K V) → IsSolid w g → AreChildren cmp g
        → IsEqualMap matches (lookup cmp (node (x ∷ p) v f)) (lookup cmp (node [] w g)) → ⊥
    no-longer x p v (Some w) f g s a h = h []
    no-longer x p v None f (grow (y ∷ q) w more (grow [] u most rest)) s a h = a.2
    no-longer x p v None f (grow (y ∷ q) w more (grow (z ∷ r) u most rest)) s a h =
        two-firsts x y z p q r v w u f more most rest a h
    no-longer x p v w f g s a h = grind arith

    -- a first child that begins below the other side's first binds what the other side does not
    first-not_less : (x y : K) (p q : List K) (v w : Option V) (f g rest others : Forest K V)
        → AreChildren cmp (grow (x ∷ p) v f rest) → AreChildren cmp (grow (y ∷ q) w g others)
        → IsEqualMap matches (lookup_in cmp (grow (x ∷ p) v f rest)) (lookup_in cmp (grow (y ∷ q) w g others))
        → cmp x y ≡ Less → ⊥
    first-not_less x y p q v w f g rest others a b h l =
        let c = first-bound cmp o (grow (x ∷ p) v f rest) a in
        not-lost matches _ _ c.value (h (x ∷ c.key)) c.is
        (lookup_in-above cmp o x (grow (y ∷ q) w g others) c.key (l, above-less cmp o x y others l b.2))

  module _ (matches : V → V → Type 0) where
    -- ---- the map of a solid node tells its prefix, its value, and what lies below

    -- the longer prefix may also be on the right
    no-longer_right : (y : K) (q : List K) (w v : Option V) (g f : Forest K V) → IsSolid v f → AreChildren cmp f
        → IsEqualMap matches (lookup cmp (node [] v f)) (lookup cmp (node (y ∷ q) w g)) → ⊥
    no-longer_right y q w v g f s a h =
        no-longer (λ v w. matches w v) y q w v g f s a (maps-flip matches _ _ h)

    -- equal prefixes, values that match, and equal maps of the children
    pub record Parts (p q : List K) (v w : Option V) (f g : Forest K V) : Type 0 where
      pub prefix : same_key cmp p q ≡ true
      pub value : IsKept matches v w
      pub below : IsEqualMap matches (lookup_in cmp f) (lookup_in cmp g)

    -- behind empty prefixes the children are asked at all keys but the empty one, which none of them binds
    below-of : (v w : Option V) (f g : Forest K V) → AreChildren cmp f → AreChildren cmp g
        → IsEqualMap matches (lookup cmp (node [] v f)) (lookup cmp (node [] w g))
        → IsEqualMap matches (lookup_in cmp f) (lookup_in cmp g)
    below-of v w f g a b h [] = grind (arith, lookup_in-empty, children-ordered)
    below-of v w f g a b h (x ∷ k) = h (x ∷ k)

    -- equal first components may be taken off both prefixes
    one-less : (x y : K) (p q : List K) (v w : Option V) (f g : Forest K V) → cmp x y ≡ Equal
        → IsEqualMap matches (lookup cmp (node (x ∷ p) v f)) (lookup cmp (node (y ∷ q) w g))
        → IsEqualMap matches (lookup cmp (node p v f)) (lookup cmp (node q w g))
    one-less x y p q v w f g e h k =
        kept_by matches _ _ _ _ (lookup-equal cmp x x p k v f (tied_itself o x))
        (lookup-equal cmp y x q k w g (tied_back o x y e)) (h (x ∷ k))

    -- two prefixes begin alike
    first-alike : (x y : K) (p q : List K) (v w : Option V) (f g : Forest K V) → IsSolid w g → AreChildren cmp g
        → IsEqualMap matches (lookup cmp (node (x ∷ p) v f)) (lookup cmp (node (y ∷ q) w g)) → cmp x y ≡ Equal
    first-alike x y p q v w f g s a h =
        let b = tree-bound cmp o (y ∷ q) w g s a in
        let c = bound-left matches _ _ b.value (h (y ∷ q ++ b.key)) b.is in
        lookup-begins cmp x y p (q ++ b.key) v f c.0 c.1

    -- equal maps of two solid nodes give equal parts
    pub parts : (p q : List K) (v w : Option V) (f g : Forest K V) → IsSolid v f → AreChildren cmp f → IsSolid w g
        → AreChildren cmp g
        → IsEqualMap matches (lookup cmp (node p v f)) (lookup cmp (node q w g)) → Parts p q v w f g
    parts [] [] v w f g s a u b h = record { prefix = refl; value = h []; below = below-of v w f g a b h }
    parts (x ∷ p) [] v w f g s a u b h = absurd (no-longer matches x p v w f g u b h)
    parts [] (y ∷ q) v w f g s a u b h = absurd (no-longer_right y q w v g f s a h)
    parts (x ∷ p) (y ∷ q) v w f g s a u b h =
        let e = first-alike x y p q v w f g u b h in
        let r = parts p q v w f g s a u b (one-less x y p q v w f g e h) in
        record { prefix = rw e r.prefix; value = r.value; below = r.below }

    -- ---- the map of a list of trees tells that of the first tree, and of the others

    -- the first trees of two lists with equal maps begin alike
    firsts-alike : (r : Ordering) (x y : K) (p q : List K) (v w : Option V) (f g rest others : Forest K V)
        → AreChildren cmp (grow (x ∷ p) v f rest) → AreChildren cmp (grow (y ∷ q) w g others)
        → IsEqualMap matches (lookup_in cmp (grow (x ∷ p) v f rest)) (lookup_in cmp (grow (y ∷ q) w g others))
        → cmp x y ≡ r → cmp x y ≡ Equal
    firsts-alike Less x y p q v w f g rest others a b h e =
        absurd (first-not_less matches x y p q v w f g rest others a b h e)
    firsts-alike Equal x y p q v w f g rest others a b h e = e
    firsts-alike Greater x y p q v w f g rest others a b h e =
        let flipped = maps-flip matches _ _ h in
        absurd (first-not_less (λ v w. matches w v) y x q p w v g f others rest b a flipped (less cmp o x y e))

    -- at a key, the first trees bind what matches, and so do the others
    pub record Apart (t u : Tree K V) (rest others : Forest K V) (k : List K) : Type 0 where
      pub here : IsKept matches (lookup cmp t k) (lookup cmp u k)
      pub beside : IsKept matches (lookup_in cmp rest k) (lookup_in cmp others k)

    -- a key that begins as the first trees is none of the others', and a key that begins otherwise is none of theirs
    apart-at : (b : Bool) (x y z : K) (p q k : List K) (v w : Option V) (f g rest others : Forest K V)
        → AllAbove cmp x rest → AllAbove cmp y others → cmp x y ≡ Equal → is_eq (cmp x z) ≡ b
        → IsKept matches (lookup_in cmp (grow (x ∷ p) v f rest) (z ∷ k))
        (lookup_in cmp (grow (y ∷ q) w g others) (z ∷ k))
        → Apart (node (x ∷ p) v f) (node (y ∷ q) w g) rest others (z ∷ k)
    apart-at b x y z p q k v w f g rest others a h e i c =
        grind (arith, lookup_in-above, above-equal, lookup-other, lookup_in-skip)

    -- equal maps of two lists whose first trees begin alike come apart
    pub apart : (x y : K) (p q : List K) (v w : Option V) (f g rest others : Forest K V)
        → AreChildren cmp (grow (x ∷ p) v f rest) → AreChildren cmp (grow (y ∷ q) w g others) → cmp x y ≡ Equal
        → IsEqualMap matches (lookup_in cmp (grow (x ∷ p) v f rest)) (lookup_in cmp (grow (y ∷ q) w g others))
        → (k : List K) → Apart (node (x ∷ p) v f) (node (y ∷ q) w g) rest others k
    apart x y p q v w f g rest others a b e h k = grind (arith, apart-at)

    -- ---- trees of equal maps are the same

    -- canonical children with equal maps are the same
    pub same-in : (f g : Forest K V) → AreChildren cmp f → AreChildren cmp g
        → IsEqualMap matches (lookup_in cmp f) (lookup_in cmp g) → IsSameIn cmp matches f g
    same-in bare (grow (y ∷ q) w g others) a b h =
        let c = first-bound cmp o (grow (y ∷ q) w g others) b in
        let d = bound-left matches None _ c.value (h (y ∷ c.key)) c.is in
        none-some d.0 d.1
    same-in (grow (x ∷ p) v f rest) bare a b h =
        let c = first-bound cmp o (grow (x ∷ p) v f rest) a in
        not-lost matches _ None c.value (h (x ∷ c.key)) c.is refl
    same-in (grow (x ∷ p) v f rest) (grow (y ∷ q) w g others) a b h =
        let e = firsts-alike (cmp x y) x y p q v w f g rest others a b h refl in
        let m = apart x y p q v w f g rest others a b e h in
        let r = parts (x ∷ p) (y ∷ q) v w f g a.0 a.1 b.0 b.1 (λ k. (m k).here) in
        (r.prefix, r.value, same-in f g a.1 b.1 r.below, same-in rest others a.3 b.3 (λ k. (m k).beside))
    same-in f g a b h = grind arith

    -- the map of a solid node is not empty
    not-nothing : (p q : List K) (v w : Option V) (f g : Forest K V) → IsSolid v f → AreChildren cmp f
        → AreNothing cmp q w g
        → IsEqualMap matches (lookup cmp (node p v f)) (lookup cmp (node q w g)) → ⊥
    not-nothing p q v w f g s a e h =
        let b = tree-bound cmp o p v f s a in
        not-lost matches _ _ b.value (h (p ++ b.key)) b.is (nothing-bound cmp q w g e (p ++ b.key))

    -- nor is it where it stands on the right
    not-nothing_right : (p q : List K) (v w : Option V) (f g : Forest K V) → AreNothing cmp p v f → IsSolid w g
        → AreChildren cmp g
        → IsEqualMap matches (lookup cmp (node p v f)) (lookup cmp (node q w g)) → ⊥
    not-nothing_right p q v w f g e s a h =
        let b = tree-bound cmp o q w g s a in
        let l = bound-left matches _ _ b.value (h (q ++ b.key)) b.is in
        none-some l.0 (sym (nothing-bound cmp p v f e (q ++ b.key)) ∙ l.1)

    -- two whole trees with equal maps: both solid, or both empty
    whole-same : (p q : List K) (v w : Option V) (f g : Forest K V) → IsSolid v f ⊎ AreNothing cmp p v f
        → AreChildren cmp f → IsSolid w g ⊎ AreNothing cmp q w g → AreChildren cmp g
        → IsEqualMap matches (lookup cmp (node p v f)) (lookup cmp (node q w g))
        → IsSame cmp matches (node p v f) (node q w g)
    whole-same p q v w f g (inl s) a (inl u) b h =
        let r = parts p q v w f g s a u b h in (r.prefix, r.value, same-in f g a b r.below)
    whole-same p q v w f g (inl s) a (inr e) b h = absurd (not-nothing p q v w f g s a e h)
    whole-same p q v w f g (inr d) a (inl u) b h = absurd (not-nothing_right p q v w f g d u b h)
    whole-same p q v w f g (inr d) a (inr e) b h = grind arith

    -- canonical trees of equal maps are the same
    pub canonical-same : (t u : Tree K V) → IsCanonical cmp t → IsCanonical cmp u
        → IsEqualMap matches (lookup cmp t) (lookup cmp u) → IsSame cmp matches t u
    canonical-same t u a b h =
        whole-same t.prefix u.prefix t.value u.value t.children u.children
        (whole-cases cmp t.prefix t.value t.children a.0) a.1 (whole-cases cmp u.prefix u.value u.children b.0) b.1 h

    -- ---- trees that are the same have equal maps, canonical or not

    -- what a node has behind equal prefixes matches where its value and what is below do
    kept-node : (v w : Option V) (f g : List K → Option V) (a b : Option (List K)) → IsKept matches v w
        → IsEqualMap matches f g → a ≡ b → IsKept matches (node_lookup v f a) (node_lookup w g b)
    kept-node v w f g a b h k e = grind arith

    -- lists of trees that are the same have equal maps
    pub equal-in : (f g : Forest K V) → IsSameIn cmp matches f g
        → IsEqualMap matches (lookup_in cmp f) (lookup_in cmp g)
    equal-in (grow p v kids rest) (grow q w more others) h k =
        grind (arith, equal-in kids more, equal-in rest others, behind-same, kept-else, kept-node)
    equal-in f g h k = grind arith

    -- trees that are the same have equal maps
    pub same-equal : (t u : Tree K V) → IsSame cmp matches t u → IsEqualMap matches (lookup cmp t) (lookup cmp u)
    same-equal t u h k = grind (arith, kept-node, equal-in, behind-same)

    -- canonical trees are the same exactly where their maps are equal
    pub canonical-unique : (t u : Tree K V) → IsCanonical cmp t → IsCanonical cmp u
        → IsSame cmp matches t u ↔ IsEqualMap matches (lookup cmp t) (lookup cmp u)
    canonical-unique t u a b = (same-equal t u, canonical-same t u a b)

    -- a canonical tree is the one canonical tree of its map
    pub canonical-one : (t : Tree K V) → IsCanonical cmp t → IsOneTree cmp matches t
    canonical-one t a u b h = canonical-same t u a b h
