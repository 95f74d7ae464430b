-- Two trees side by side, by how their prefixes diverge.
--     go-within        a place in what is left of a key
--     apart-side        which of two trees that part is the first
--     apart-below, inside-below, within-below, both-below        what is below, in each shape
--     below-made        what was made below two fronts is made of both trees
use Rattle.std.proofs.Common.{◌≡◌, ◌+◌, ◌-◌, ◌<◌, ◌≤◌, ℕ, [], ◌∷◌, List, Option, None, Some, refl, ap}
use Rattle.std.proofs.Common.{◌⊎◌, false, inl, inr, arith, length, length-drop, drop, take, slice_get}
use Rattle.std.proofs.Math.ListN.{drop_of_length-le}
use Rattle.std.proofs.lemmas.List.{drop-drop}
use Rattle.std.proofs.lemmas.Option.{slice_get_within}
use Rattle.std.specs.Cmp.{IsTotalOrder}
use Rattle.std.specs.Ordering.{is_eq, ordering_reverse}
use Rattle.std.specs.declared.cmp.Ordering.{Ordering}
use Rattle.vc_tree_model.specs.Canonical.{AreChildren, IsCanonical}
use Rattle.vc_tree_model.specs.Child.{solid_child, value_at}
use Rattle.vc_tree_model.specs.Look.{values}
use Rattle.vc_tree_model.specs.Map.{lookup}
use Rattle.vc_tree_model.specs.Tree.{Tree, Forest, shortened}
use Rattle.vc_tree_model.proofs.Shortening.{shortened-canonical}
use Rattle.vc_tree_nodes.specs.Children.{seen}
use Rattle.vc_tree_nodes.specs.Parting.{Agree, PartsAt}
use Rattle.vc_tree_facing.specs.Doing.{IsSaidIn}
use Rattle.vc_tree_facing.specs.Facing.{shortened_in, Parts, IsOpened}
use Rattle.vc_tree_facing.specs.Made.{IsBothMade}
use Rattle.vc_tree_facing.specs.Sides.{by_component, lower_side, side_next}
use Rattle.vc_tree_facing.proofs.Components.{get-drop}
use Rattle.vc_tree_facing.proofs.Ending.{below-children, front-asked, made-front}
use Rattle.vc_tree_facing.proofs.Opening.{opened-all, opened-rest, parts_at, slice-from}
use Rattle.vc_tree_combines.specs.Making.{AreMadeOf, IsMadeBelow}

-- keys part where one of them has ended
parts-ended : {K : Type 0} (cmp : K → K → Ordering) (p q : List K) → (p ≡ []) ⊎ (q ≡ []) → Parts cmp p q
parts-ended cmp p q e = grind arith

-- the component at a place is there
at-within : {K : Type 0} (n i : ℕ) (p : List K) (x : K) → slice_get (drop i p) n ≡ Some x → slice_get p (i + n) ≡ Some x
at-within n i p x e = grind (arith, get-drop n (drop i p), get-drop (i + n) p, drop-drop n i p)

-- a place in what is left of a key is one of the key
pub go-within : {K : Type 0} (whole p : List K) (i n : ℕ) → whole ≡ p → n < length (take (length whole - i) (drop i whole))
    → i + n < length p
go-within whole p i n e h =
    omega (arith, h, length-drop i p, ap length (slice-from (take (length whole - i) (drop i whole)) whole p i refl e))

module _ {K V W U A B : Type 0} (cmp : K → K → Ordering) (ta : A → Tree K V) (tb : B → Tree K W)
    (R : Option V → Option W → Option U → Type 0) (asks : Option V → Option W → Type 0) where
  -- what stands below the place where the prefixes of t and u part after n components
  pub record IsBelow (t : Tree K V) (u : Tree K W) (n : ℕ) (xs : List A) (i : ℕ) (ys : List B) (j : ℕ) : Type 0 where
    pub left : AreChildren cmp (shortened_in ta i xs)
    pub right : AreChildren cmp (shortened_in tb j ys)
    pub asked : IsSaidIn cmp ta tb i j (values cmp) asks xs ys
    pub made : (h : Forest K U) → AreMadeOf cmp R (shortened_in ta i xs) (shortened_in tb j ys) h → IsMadeBelow cmp R t u n h

-- what is left of two prefixes
module _ {K V W A B : Type 0} {cmp : K → K → Ordering} (o : IsTotalOrder cmp) (ta : A → Tree K V) (tb : B → Tree K W) (a : A)
    (b : B) (i j : ℕ) {whole other : List K} (wa : whole ≡ (ta a).prefix) (wb : other ≡ (tb b).prefix) (n : ℕ) where
  abbrev p : List K
  p = take (length whole - i) (drop i whole)

  abbrev q : List K
  q = take (length other - j) (drop j other)

  left-is : p ≡ drop i (ta a).prefix
  left-is = slice-from p whole (ta a).prefix i refl wa

  right-is : q ≡ drop j (tb b).prefix
  right-is = slice-from q other (tb b).prefix j refl wb

  left-goes : n < length p → IsOpened ta (shortened i (ta a)) (drop n (drop i (ta a).prefix)) (a ∷ []) (i + n)
  left-goes h = opened-rest ta a i n refl (go-within whole (ta a).prefix i n wa h)

  right-goes : n < length q → IsOpened tb (shortened j (tb b)) (drop n (drop j (tb b).prefix)) (b ∷ []) (j + n)
  right-goes h = opened-rest tb b j n refl (go-within other (tb b).prefix j n wb h)

  left-ends : length p ≤ n → drop n (drop i (ta a).prefix) ≡ []
  left-ends h = rw (← left-is) (drop_of_length-le p h)

  right-ends : length q ≤ n → drop n (drop j (tb b).prefix) ≡ []
  right-ends h = rw (← right-is) (drop_of_length-le q h)

  -- which tree is the first where both go on
  pub apart-side : (r : Ordering) → PartsAt cmp r p q n
      → side_next (by_component ta tb (i + n) (j + n) cmp) (Some a) (Some b) ≡ Some (lower_side (ordering_reverse r))
  apart-side r g =
      let h = rw (left-is, right-is) at g in
      let x = at-within n i (ta a).prefix h.old h.old_at in
      let y = at-within n j (tb b).prefix h.new h.new_at in
      rw (x, y, o.antisymm h.new h.old, h.ordered) refl

  -- what is below, by the shape
  module _ {U : Type 0} (ca : IsCanonical cmp (ta a)) (cb : IsCanonical cmp (tb b)) (R : Option V → Option W → Option U → Type 0)
      (asks : Option V → Option W → Type 0)
      (may : (k : List K) → asks (lookup cmp (shortened i (ta a)) k) (lookup cmp (shortened j (tb b)) k)) where
    abbrev Below : List A → ℕ → List B → ℕ → Type 0
    Below xs i' ys j' = IsBelow cmp ta tb R asks (shortened i (ta a)) (shortened j (tb b)) n xs i' ys j'

    below : {xs : List A} {i' : ℕ} {ys : List B} {j' : ℕ} → Agree cmp p q n
        → Parts cmp (drop n (drop i (ta a).prefix)) (drop n (drop j (tb b).prefix))
        → IsOpened ta (shortened i (ta a)) (drop n (drop i (ta a).prefix)) xs i'
        → IsOpened tb (shortened j (tb b)) (drop n (drop j (tb b).prefix)) ys j' → Below xs i' ys j'
    below h parts l r =
        let agree = rw (left-is, right-is) at h in
        let ct = shortened-canonical cmp i (ta a) ca in
        let cu = shortened-canonical cmp j (tb b) cb in
        record {
          left = below-children cmp n ct l;
          right = below-children cmp n cu r;
          asked = rw (l.children, r.children)
              (λ x q. front-asked o (values cmp) (shortened i (ta a)) (shortened j (tb b)) n agree.same asks may (x ∷ q));
          made = λ h m. record {
            left = ct;
            right = cu;
            agree = agree;
            parts = parts;
            made = rw (← l.children, ← r.children) m;
          };
        }

    -- both go on
    pub apart-below : (r : Ordering) → is_eq r ≡ false → PartsAt cmp r p q n → Below (a ∷ []) (i + n) (b ∷ []) (j + n)
    apart-below r u g =
        below g.agree (parts_at cmp (drop i (ta a).prefix) (drop j (tb b).prefix) n r u (rw (left-is, right-is) at g))
        (left-goes (slice_get_within p n g.old g.old_at)) (right-goes (slice_get_within q n g.new g.new_at))

    -- the right one has ended
    pub inside-below : Agree cmp p q n × (n ≡ length q) × (n < length p) → (others : List B)
        → seen tb others ≡ (tb b).children → Below (a ∷ []) (i + n) others 0
    inside-below g others k =
        let ends = right-ends (omega (arith, g.1)) in
        below g.0 (parts-ended cmp _ _ (inr ends)) (left-goes g.2) (opened-all tb (shortened j (tb b)) _ others ends k)

    -- the left one has
    pub within-below : Agree cmp p q n → n ≡ length p → n < length q → (others : List A)
        → seen ta others ≡ (ta a).children → Below others 0 (b ∷ []) (j + n)
    within-below g e w others k =
        let ends = left-ends (omega (arith, e)) in
        below g (parts-ended cmp _ _ (inl ends)) (opened-all ta (shortened i (ta a)) _ others ends k) (right-goes w)

    -- both have
    pub both-below : Agree cmp p q n → n ≡ length p → length q ≤ n → (lefts : List A) → seen ta lefts ≡ (ta a).children
        → (rights : List B) → seen tb rights ≡ (tb b).children → Below lefts 0 rights 0
    both-below g e w lefts k rights m =
        let ends = left-ends (omega (arith, e)) in
        below g (parts-ended cmp _ _ (inl ends)) (opened-all ta (shortened i (ta a)) _ lefts ends k)
        (opened-all tb (shortened j (tb b)) _ rights (right-ends w) m)

-- what was made below two fronts is made of both trees, with the value of the node
pub below-made : {K V W U : Type 0} {cmp : K → K → Ordering} (o : IsTotalOrder cmp) (R : Option V → Option W → Option U → Type 0)
    {t : Tree K V} {u : Tree K W} {n : ℕ} {h : Forest K U} → R None None None → IsMadeBelow cmp R t u n h → (v : Option U)
    → R (value_at t (drop n t.prefix)) (value_at u (drop n u.prefix)) v → {out : Option (Tree K U)}
    → out ≡ solid_child (take n t.prefix) v h → IsBothMade cmp R t u out
below-made {cmp = cmp} o R {t} {u} {n} {h} none m v root e =
    rw e (made-front o (values cmp) t u n m.agree.same R none m.parts v h m.made.0 root m.made.1)
