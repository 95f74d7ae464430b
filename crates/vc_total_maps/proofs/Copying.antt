-- A copy of a total map has, at each key, a copy of the value there.
use Rattle.std.proofs.Common.{◌≡◌, Bool, true, false, not, cond, List, [], ◌∷◌, Option, Some, None, IfSome, refl, sym, ap, ◌∙◌}
use Rattle.std.specs.BTreeMap.{is_at}
use Rattle.std.specs.Cmp.{IsEquivalence, IsTotalOrder}
use Rattle.std.specs.List.{AllByRecursion, AllZip, filter}
use Rattle.std.specs.List.Retain.{IsFiltered}
use Rattle.std.proofs.lemmas.Fn.{filter_same}
use Rattle.std.specs.Ordering.{is_eq}
use Rattle.std.specs.declared.cmp.Ordering.{Ordering}
use Rattle.vc_joins.specs.Entries.{value_at}
use Rattle.vc_merge.specs.Clones.{ClonesAreEqual}
use Rattle.vc_sets.proofs.Searching.{equal-turned}
use Rattle.vc_total_maps.specs.TotalMap.{NoneIsDefault, total_map}

-- both are there, and related, or neither is
abbrev pub Alike : {V W : Type 0} → (V → W → Type 0) → Option V → Option W → Type 0
Alike S None None = Unit {0}
Alike S None (Some w) = ⊥
Alike S (Some v) None = ⊥
Alike S (Some v) (Some w) = S v w

pick-alike : {V W : Type 0} (S : V → W → Type 0) (b c : Bool) (v : V) (w : W) (o : Option V) (p : Option W) → b ≡ c
    → S v w → Alike S o p → Alike S (cond b (Some v) o) (cond c (Some w) p)
pick-alike S true true v w o p e s h = s
pick-alike S true false v w o p e s h = let wrong : true ≡ false = e in cc
pick-alike S false true v w o p e s h = let wrong : false ≡ true = e in cc
pick-alike S false false v w o p e s h = h

module _ {K : Type 0} (cmp : K → K → Ordering) (total : IsTotalOrder cmp) where
  module _ {V W : Type 0} (R : K → K → Type 0) (clones : ClonesAreEqual cmp R) (S : V → W → Type 0) where
    pub values-alike : (xs : List (K × V)) (ys : List (K × W)) → AllZip (λ p q. R p.0 q.0 × S p.1 q.1) xs ys
        → (k : K) → Alike S (value_at cmp xs k) (value_at cmp ys k)
    values-alike [] [] h k = tt
    values-alike (x ∷ xs) (y ∷ ys) h k =
        let same : is_at (cmp k) x.0 ≡ is_at (cmp k) y.0 = equal-turned cmp total k x.0
        ∙ ap is_eq (clones x.0 y.0 h.0.0 k) ∙ equal-turned cmp total y.0 k in
        pick-alike S (is_at (cmp k) x.0) (is_at (cmp k) y.0) x.1 y.1 (value_at cmp xs k)
        (value_at cmp ys k) same h.0.1 (values-alike xs ys h.1 k)
    values-alike x y h k = absurd h

-- whether two values are equal is told of values that are equal to them
eq-alike : {V : Type 0} {eq : V → V → Bool} → IsEquivalence eq → (v w d e : V) → eq v w ≡ true → eq d e ≡ true → eq w e ≡ eq v d
eq-alike laws v w d e vw de = sym (laws.congr v w e vw) ∙ laws.symm v e ∙ sym (laws.congr d e v de) ∙ laws.symm d v

differs-alike : {V : Type 0} {eq : V → V → Bool} → IsEquivalence eq → (d e : V) → eq d e ≡ true
    → (S : V → V → Type 0) → ((v w : V) → S v w → eq v w ≡ true)
    → (o p : Option V) → Alike S o p → IfSome o (λ v. eq v d ≡ false) → IfSome p (λ w. eq w e ≡ false)
differs-alike laws d e de S says None None a h = tt
differs-alike laws d e de S says (Some v) (Some w) a h = eq-alike laws v w d e (says v w a) de ∙ h
differs-alike laws d e de x says y z a h = absurd a

pub copy-canonical : {K V : Type 0} (cmp : K → K → Ordering) → IsTotalOrder cmp → (eq : V → V → Bool) → IsEquivalence eq
    → (R : K → K → Type 0) → ClonesAreEqual cmp R → (S : V → V → Type 0) → ((v w : V) → S v w → eq v w ≡ true)
    → (xs ys : List (K × V)) (d e : V) → AllZip (λ p q. R p.0 q.0 × S p.1 q.1) xs ys → S d e
    → NoneIsDefault cmp eq (total_map xs d) → NoneIsDefault cmp eq (total_map ys e)
copy-canonical cmp total eq laws R clones S says xs ys d e pairs default h k =
    differs-alike laws d e (says d e default) S says (value_at cmp xs k) (value_at cmp ys k)
    (values-alike cmp total R clones S xs ys pairs k) (h k)

-- ---- what is left once the pairs are gone whose value equals the default

by-test : {P : Type 0} (b : Bool) → (b ≡ true → P) → (b ≡ false → P) → P
by-test true t f = t refl
by-test false t f = f refl

not-true : (b : Bool) → not b ≡ true → b ≡ false
not-true false e = refl
not-true true e = let wrong : false ≡ true = e in cc

-- one of two holds, whichever is picked
pick-holds : {V : Type 0} (P : V → Type 0) (b : Bool) (v : V) (o : Option V) → P v → IfSome o P → IfSome (cond b (Some v) o) P
pick-holds P true v o p h = p
pick-holds P false v o p h = h

module _ {K V : Type 0} (eq : V → V → Bool) (d : V) where
  filter-apart : (es : List (K × V)) → AllByRecursion (λ p. eq p.1 d ≡ false) (filter (λ p. not (eq p.1 d)) es)
  filter-apart [] = tt
  filter-apart (e ∷ es) = by-test (not (eq e.1 d)) (λ t. rw t (not-true (eq e.1 d) t, filter-apart es))
      (λ f. rw f (filter-apart es))

  apart-listed : (cmp : K → K → Ordering) (es : List (K × V)) → AllByRecursion (λ p. eq p.1 d ≡ false) es
      → NoneIsDefault cmp eq (total_map es d)
  apart-listed cmp [] all k = tt
  apart-listed cmp (e ∷ es) all k =
      pick-holds (λ v. eq v d ≡ false) (is_at (cmp k) e.0) e.1 (value_at cmp es k) all.0 (apart-listed cmp es all.1 k)

  pub filter-canonical : (cmp : K → K → Ordering) (es : List (K × V))
      → NoneIsDefault cmp eq (total_map (filter (λ p. not (eq p.1 d)) es) d)
  filter-canonical cmp es = apart-listed cmp (filter (λ p. not (eq p.1 d)) es) (filter-apart es)

-- what is left by a test that answers each time as `test` does
pub left-filtered : {F X : Type 0} (calls : F → X → Bool → F → Type 0) (f : F) (test : X → Bool) (xs ys : List X)
    → IsFiltered calls f xs ys → ((x : X) (answer : Bool) (after : F) → calls f x answer after → (answer ≡ test x) × (after ≡ f))
    → ys ≡ filter test xs
left-filtered calls f test xs ys left says = filter_same calls test f says xs ys left
