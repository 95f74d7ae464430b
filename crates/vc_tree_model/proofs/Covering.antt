-- The cover of a key is the value of the longest key that is a prefix of it, and removal and retention part a map.
--     Respects, longest-next, longest-empty, only-empty        the longest key that is a prefix, component by component
--     cover-is        the law of covers
--     removal-retention        each pair is removed or retained, and never both
use Rattle.std.proofs.Common.{◌≡◌, ◌≤◌, [], ◌∷◌, ◌++◌, List, Option, None, Some, length, refl, sym, ap, ◌∙◌, true}
use Rattle.std.proofs.Common.{false, Bool, cond, true≢false, inl, inr, ◌⊎◌, arith}
use Rattle.std.specs.declared.cmp.Ordering.{Ordering}
use Rattle.std.specs.Ordering.{is_eq}
use Rattle.std.specs.Cmp.{IsTotalOrder, tied_itself}
use Rattle.vc_tree_model.specs.Key.{same_key, Starts}
use Rattle.vc_tree_model.specs.Map.{or_else, lookup}
use Rattle.vc_tree_model.specs.Cover.{cover, IsLongestCover}
use Rattle.vc_tree_model.specs.PrefixLaws.{CoverIsLongest, RemovalAndRetentionPart}
use Rattle.vc_tree_model.proofs.KeyLemmas.{none-some, same-itself, same-flip, same-trans}
use Rattle.vc_tree_model.proofs.LookupLemmas.{lookup-same}

module _ {K : Type 0} (cmp : K → K → Ordering) (o : IsTotalOrder cmp) where
  -- two keys with one first component are equal where the others are
  same-cons : (x : K) (j k : List K) → same_key cmp j k ≡ true → same_key cmp (x ∷ j) (x ∷ k) ≡ true
  same-cons x j k h = rw (tied_itself o x) h

  -- the empty key is a prefix of each
  empty-starts : (k : List K) → Starts cmp k []
  empty-starts k = (k, same-itself cmp o k)

  -- a prefix that goes on begins as the key does
  starts-next : (x y : K) (k p : List K) → Starts cmp (x ∷ k) (y ∷ p) → (is_eq (cmp y x) ≡ true) × Starts cmp k p
  starts-next x y k p s = grind arith

  -- and the other way round
  next-starts : (x : K) (k p : List K) → Starts cmp k p → Starts cmp (x ∷ k) (x ∷ p)
  next-starts x k p s = grind arith

  -- of two equal keys the fronts of one length are equal
  same-fronts : (p r s t : List K) → length p ≡ length r → same_key cmp (p ++ s) (r ++ t) ≡ true
      → same_key cmp p r ≡ true
  same-fronts (x ∷ p) (y ∷ r) s t e h = grind (arith, same-fronts p r s t)
  same-fronts p r s t e h = grind arith

  -- two prefixes of one key and of one length are equal
  same-prefixes : (k p r : List K) → Starts cmp k p → Starts cmp k r → length p ≡ length r → same_key cmp p r ≡ true
  same-prefixes k p r s t e = grind (arith, same-fronts, same-trans, same-flip)

-- neither of two is there where the first of them that is there is none
else-none : {W : Type 0} (a b : Option W) → or_else a b ≡ None → (a ≡ None) × (b ≡ None)
else-none a b e = grind arith

-- the first of two that is there
pub else-some : {W : Type 0} (a b : Option W) (w : W) → or_else a b ≡ Some w → (a ≡ Some w) ⊎ ((a ≡ None) × (b ≡ Some w))
else-some a b w e = grind arith

module _ {K W : Type 0} (cmp : K → K → Ordering) (o : IsTotalOrder cmp) where
  -- a map has one value at equal keys
  abbrev pub Respects : (List K → Option W) → Type 0
  Respects q = (j k : List K) → same_key cmp j k ≡ true → q j ≡ q k

  -- the map behind a component has one value at equal keys too
  pub respects-behind : (q : List K → Option W) → Respects q → (x : K) → Respects (λ rest. q (x ∷ rest))
  respects-behind q r x j k h = r (x ∷ j) (x ∷ k) (same-cons cmp o x j k h)

  -- at a prefix that goes on the map has what it has behind the key's own first component
  respelled : (q : List K → Option W) → Respects q → (x y : K) (p : List K) → is_eq (cmp y x) ≡ true
      → q (y ∷ p) ≡ q (x ∷ p)
  respelled q r x y p e = r (y ∷ p) (x ∷ p) (ap (λ b. cond b (same_key cmp p p) false) e ∙ same-itself cmp o p)

  -- where a key has no cover, none of its prefixes is bound
  uncovered : (q : List K → Option W) → Respects q → (k p : List K) → cover q k ≡ None → Starts cmp k p → q p ≡ None
  uncovered q r [] [] e s = e
  uncovered q r [] (y ∷ p) e s = absurd (true≢false (sym s.1))
  uncovered q r (x ∷ k) [] e s = grind arith
  uncovered q r (x ∷ k) (y ∷ p) e s =
      let next = starts-next cmp o x y k p s in
      let none = (else-none (cover (λ rest. q (x ∷ rest)) k) (q []) e).0 in
      respelled q r x y p next.0 ∙ uncovered (λ rest. q (x ∷ rest)) (respects-behind q r x) k p none next.1

  -- a longest cover behind a component is one with the component before it
  pub longest-next : (q : List K → Option W) → Respects q → (x : K) (k p : List K) (w : W)
      → IsLongestCover cmp (λ rest. q (x ∷ rest)) k p w → IsLongestCover cmp q (x ∷ k) (x ∷ p) w
  longest-next q r x k p w l = record { prefix = next-starts cmp o x k p l.prefix; bound = l.bound; longest = by }
    where
      by : (j : List K) (u : W) → Starts cmp (x ∷ k) j → q j ≡ Some u → length j ≤ length (x ∷ p)
      by [] u s b = omega arith
      by (y ∷ j) u s b =
          let next = starts-next cmp o x y k j s in
          let most = l.longest j u next.1 (sym (respelled q r x y j next.0) ∙ b) in
          omega (arith, most)

  -- where no longer prefix is bound, the empty key is the longest
  pub longest-empty : (q : List K → Option W) → Respects q → (x : K) (k : List K) (w : W)
      → cover (λ rest. q (x ∷ rest)) k ≡ None → q [] ≡ Some w → IsLongestCover cmp q (x ∷ k) [] w
  longest-empty q r x k w e b = record { prefix = empty-starts cmp o (x ∷ k); bound = b; longest = by }
    where
      by : (j : List K) (u : W) → Starts cmp (x ∷ k) j → q j ≡ Some u → length j ≤ 0
      by [] u s b = omega arith
      by (y ∷ j) u s b =
          let next = starts-next cmp o x y k j s in
          none-some u
          (sym (respelled q r x y j next.0 ∙ uncovered (λ rest. q (x ∷ rest)) (respects-behind q r x) k j e next.1) ∙ b)

  -- no key but the empty one is a prefix of the empty key
  pub only-empty : (q : List K → Option W) (j : List K) (u : W) → Starts cmp [] j → q j ≡ Some u → length j ≤ 0
  only-empty q [] u s b = omega arith
  only-empty q (y ∷ j) u s b = absurd (true≢false (sym s.1))

  -- a cover is the value of a longest key
  longest : (q : List K → Option W) → Respects q → (k : List K) (w : W) → cover q k ≡ Some w
      → (p : List K) × IsLongestCover cmp q k p w
  longest q r [] w e = ([], record { prefix = ([], refl); bound = e; longest = only-empty q })
  longest q r (x ∷ k) w e =
      elim (else-some (cover (λ rest. q (x ∷ rest)) k) (q []) w e) [
        | inl h ↦ (let found = longest (λ rest. q (x ∷ rest)) (respects-behind q r x) k w h in
            (x ∷ found.0, longest-next q r x k found.0 w found.1))
        | inr h ↦ ([], longest-empty q r x k w h.0 h.1)
      ]

  -- the value of a longest key is the cover
  longest-covers : (q : List K → Option W) → Respects q → (k p : List K) (w : W) → IsLongestCover cmp q k p w
      → cover q k ≡ Some w
  longest-covers q r k p w l = by (cover q k) refl
    where
      by : (c : Option W) → cover q k ≡ c → cover q k ≡ Some w
      by None e = none-some w (sym (uncovered q r k p e l.prefix) ∙ l.bound)
      by (Some u) e =
          let found = longest q r k u e in
          let most = l.longest found.0 u found.1.prefix found.1.bound in
          let least = found.1.longest p w l.prefix l.bound in
          let long : length found.0 ≡ length p = omega (arith, most, least) in
          let same = r found.0 p (same-prefixes cmp o k found.0 p found.1.prefix l.prefix long) in
          e ∙ sym found.1.bound ∙ same ∙ l.bound

  -- the cover of a key is the value of the longest key that is a prefix of it
  pub cover-is : CoverIsLongest K W cmp
  cover-is t k w = (
    longest (lookup cmp t) (lookup-same cmp o t) k w,
    λ l. longest-covers (lookup cmp t) (lookup-same cmp o t) k l.0 w l.1,
  )

module _ {V W : Type 0} (keeps : V → V → Type 0) (may : W → Bool → Type 0) where
  -- each pair is removed or retained, and never both
  pub removal-retention : {K : Type 0} → RemovalAndRetentionPart K V W keeps may
  removal-retention answer one q f left kept r s k = grind (arith, one)
