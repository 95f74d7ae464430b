-- What a set has around a place, by the boundaries at or below it and those above it.
--     interval-around        the interval that is listed and has it
--     next-above        the first boundary above it
--     same-until, toggled-next        what is in the set up to that boundary, and at it
--     overlap-next, overlap-last        whether it has a value of a range whose start it lacks
use Rattle.std.proofs.Common.{◌≡◌, ℕ, suc, ◌-◌, Bool, true, false, cond, not, List, [], ◌∷◌, ◌++◌, length, slice_get}
use Rattle.std.proofs.Common.{◌↔◌, Option, Some, None, IfSome, IsTrue, refl, arith}
use native.Mathlib.Numerals.{unary_clauses}
use Rattle.std.specs.BTreeMap.Range.{range_contains, is_from_start}
use Rattle.std.specs.Cmp.{IsTotalOrder}
use Rattle.std.specs.List.{AllByRecursion, find}
use Rattle.std.specs.List.Sorted.{IsStrictlySortedBy}
use Rattle.std.specs.Borrow.{Bor}
use Rattle.std.specs.Option.{option_copied}
use Rattle.std.specs.Ordering.{is_le, is_lt}
use Rattle.std.specs.declared.cmp.Ordering.{Ordering}
use Rattle.std.specs.declared.cmp.Ordering.TheVariants.{Less}
use Rattle.std.specs.declared.ops.Bound.{Bound}
use Rattle.std.specs.declared.ops.Bound.TheVariants.{Included, Excluded, Unbounded}
use Rattle.vc_merge.specs.Ascending.{Ascends}
use Rattle.vc_sets.specs.SetOf.{exactly_one}
use Rattle.vc_intervals.specs.Events.{odd}
use Rattle.vc_intervals.specs.Boundaries.{toggled}
use Rattle.vc_intervals.specs.Listed.{listed_from, begun_start}
use Rattle.vc_intervals.proofs.Ranged.{each-later}
use Rattle.vc_intervals.proofs.Toggled.{toggled-passed, toggled-above}
use Rattle.vc_intervals.proofs.OneList.{at-first, boundaries-above}

odd-next : (n : ℕ) (b : Bool) → exactly_one (odd n) (not b) ≡ exactly_one (odd (suc n)) b
odd-next n b = grind arith

module _ {X : Type 0} (P : X → Type 0) where
  -- what holds of a value that is shown, or of one that is to be shown
  pub if-shown : (r : Option (Bor X)) (o : Option X) → option_copied r ≡ o → IfSome r (λ t. P t.now) → IfSome o P
  if-shown r o e h = grind arith

  pub if-each : (r : Option (Bor X)) (o : Option X) → option_copied r ≡ o → ((t : X) → o ≡ Some t → P t) → IfSome r (λ t. P t.now)
  if-each r o e h = grind arith

module _ {X : Type 0} where
  -- ---- the ends of an interval

  -- the start of an interval that begins at the last of these boundaries, or where there is none, at s
  abbrev pub start_behind : Bound X → List X → Bound X
  start_behind s [] = s
  start_behind s (t ∷ ts) = start_behind (Included t) ts

  -- the start of an interval that has begun, where one has
  abbrev begun : Bool → Bound X → Option (Bound X)
  begun true s = Some s
  begun false s = None

  -- the ends of an interval behind boundaries of which this is the last, and before others of which this is the first
  abbrev pub start_at : Option X → Bound X
  start_at None = Unbounded
  start_at (Some t) = Included t

  abbrev pub end_at : Option X → Bound X
  end_at None = Unbounded
  end_at (Some t) = Excluded t

  starts : (s : Bound X) (t : X) (ps : List X) → start_at (slice_get (t ∷ ps) (length ps)) ≡ start_behind s (t ∷ ps)
  starts s t [] = refl
  starts s t (u ∷ ps) = starts (Included t) u ps

  pub start-told : (ps : List X) → start_at (slice_get ps (length ps - 1)) ≡ start_behind Unbounded ps
  start-told [] = refl
  start-told (t ∷ ps) = simp unary_clauses (starts Unbounded t ps)

module _ {X : Type 0} (cmp : X → X → Ordering) where
  -- ---- the interval that has a place

  -- it has x
  abbrev pub has : X → Bound X × Bound X → Bool
  has x ends = range_contains cmp ends.0 ends.1 x

  -- behind a place no interval has it
  none-ahead : (qs : List X) (x : X) → AllByRecursion (λ t. is_le (cmp t x) ≡ false) qs
      → (find (has x) (listed_from None qs) ≡ None)
      × ((t : X) → is_le (cmp t x) ≡ false → find (has x) (listed_from (Some (Included t)) qs) ≡ None)
  none-ahead [] x h = (refl, λ t e. grind arith)
  none-ahead (q ∷ qs) x h = ((none-ahead qs x h.1).1 q h.0, λ t e. grind (arith, (none-ahead qs x h.1).0))

  at-place : (inside : Bool) (s : Bound X) (qs : List X) (x : X) → is_from_start cmp s x ≡ true
      → AllByRecursion (λ t. is_le (cmp t x) ≡ false) qs
      → find (has x) (listed_from (begun inside s) qs) ≡ cond inside (Some (s, end_at (slice_get qs 0))) None
  at-place true s [] x e h = grind arith
  at-place true s (q ∷ qs) x e h = grind arith
  at-place false s qs x e h = (none-ahead qs x h).0

  -- an interval that has ended does not have the place
  ended : (s : Bound X) (t x : X) → is_le (cmp t x) ≡ true → has x (s, Excluded t) ≡ false
  ended s t x e = grind arith

  pub interval-from : (inside : Bool) (s : Bound X) (ps qs : List X) (x : X) → is_from_start cmp s x ≡ true
      → AllByRecursion (λ t. is_le (cmp t x) ≡ true) ps → AllByRecursion (λ t. is_le (cmp t x) ≡ false) qs
      → find (has x) (listed_from (begun inside s) (ps ++ qs))
      ≡ cond (exactly_one (odd (length ps)) inside) (Some (start_behind s ps, end_at (slice_get qs 0))) None
  interval-from inside s [] qs x e p q = at-place inside s qs x e q
  interval-from true s (t ∷ ps) qs x e p q =
      rw (ended s t x p.0, ← odd-next (length ps) true) (interval-from false (Included t) ps qs x p.0 p.1 q)
  interval-from false s (t ∷ ps) qs x e p q = rw (← odd-next (length ps) false) (interval-from true (Included t) ps qs x p.0 p.1 q)

  pub interval-around : (b : Bool) (ps qs : List X) (x : X) → AllByRecursion (λ t. is_le (cmp t x) ≡ true) ps
      → AllByRecursion (λ t. is_le (cmp t x) ≡ false) qs
      → find (has x) (listed_from (begun_start b) (ps ++ qs))
      ≡ cond (exactly_one (odd (length ps)) b) (Some (start_behind Unbounded ps, end_at (slice_get qs 0))) None
  interval-around true ps qs x p q = interval-from true Unbounded ps qs x refl p q
  interval-around false ps qs x p q = interval-from false Unbounded ps qs x refl p q

  module _ (total : IsTotalOrder cmp) where
    -- ---- the next boundary

    -- the first boundary above a place
    pub next-above : (ps qs : List X) (x : X) → AllByRecursion (λ t. is_le (cmp t x) ≡ true) ps
        → AllByRecursion (λ t. is_le (cmp t x) ≡ false) qs → find (λ t. is_lt (cmp x t)) (ps ++ qs) ≡ slice_get qs 0
    next-above [] [] x p q = refl
    next-above [] (t ∷ qs) x p q = grind arith
    next-above (t ∷ ps) qs x p q = grind (arith, next-above ps qs x p.1 q)

    -- boundaries of which the first is above x are
    all-above : (qs : List X) (x : X) → Ascends cmp qs → IfSome (slice_get qs 0) (λ t. cmp x t ≡ Less)
        → AllByRecursion (λ t. is_le (cmp t x) ≡ false) qs
    unfolding IsStrictlySortedBy
    all-above [] x a h = tt
    all-above (t ∷ qs) x a h = grind (arith, boundaries-above cmp total t qs x)

    -- from a place on, nothing changes before the first boundary above it
    pub same-until : (b : Bool) (ps qs : List X) (v x : X) → Ascends cmp qs
        → AllByRecursion (λ t. is_le (cmp t v) ≡ true) ps → AllByRecursion (λ t. is_le (cmp t v) ≡ false) qs
        → is_le (cmp v x) ≡ true → IfSome (slice_get qs 0) (λ t. cmp x t ≡ Less)
        → toggled cmp b (ps ++ qs) x ≡ toggled cmp b (ps ++ qs) v
    same-until b ps qs v x a p q e h = grind (arith, toggled-passed, toggled-above, each-later, all-above)

    -- there the answer changes
    pub toggled-next : (b : Bool) (ps qs : List X) (v t : X) → Ascends cmp qs
        → AllByRecursion (λ t. is_le (cmp t v) ≡ true) ps → AllByRecursion (λ t. is_le (cmp t v) ≡ false) qs
        → slice_get qs 0 ≡ Some t → toggled cmp b (ps ++ qs) t ≡ not (toggled cmp b (ps ++ qs) v)
    unfolding IsStrictlySortedBy
    toggled-next b ps [] v t a p q e = grind arith
    toggled-next b ps (u ∷ qs) v t a p q e =
        grind (arith, toggled-passed, toggled-above, each-later cmp total ps v t, at-first)

    -- ---- a range

    -- it has its start, and what is from there on and before its end
    pub range-start : (s e : X) → cmp s e ≡ Less → range_contains cmp (Included s) (Excluded e) s ≡ true
    range-start s e l = grind arith

    -- a set has a value of it
    abbrev pub Overlap : Bool → List X → X → X → Type 0
    Overlap b ts s e = (x : X) × IsTrue (range_contains cmp (Included s) (Excluded e) x) × IsTrue (toggled cmp b ts x)

    first-ahead : (P : X → Type 0) (qs : List X) (t : X) → slice_get qs 0 ≡ Some t → AllByRecursion P qs → P t
    first-ahead P [] t e h = grind arith
    first-ahead P (q ∷ qs) t e h = grind arith

    module _ (b : Bool) (ps qs : List X) (s e : X) (ascends : Ascends cmp qs)
        (passed : AllByRecursion (λ t. is_le (cmp t s) ≡ true) ps)
        (ahead : AllByRecursion (λ t. is_le (cmp t s) ≡ false) qs) (lacks : toggled cmp b (ps ++ qs) s ≡ false) where
      -- what comes before the next boundary is not in the set, where the start is not
      lacking : (x : X) → range_contains cmp (Included s) (Excluded e) x ≡ true → IfSome (slice_get qs 0) (λ t. cmp x t ≡ Less)
          → toggled cmp b (ps ++ qs) x ≡ true → ⊥
      lacking x r h k = grind (arith, same-until b ps qs s x ascends passed ahead)

      pub overlap-last : slice_get qs 0 ≡ None → IsTrue false ↔ Overlap b (ps ++ qs) s e
      overlap-last n = grind (arith, lacking)

      pub overlap-next : (t : X) (c : Bool) → slice_get qs 0 ≡ Some t → c ≡ is_lt (cmp t e)
          → IsTrue c ↔ Overlap b (ps ++ qs) s e
      overlap-next t true n k =
          grind (arith, first-ahead (λ q. is_le (cmp q s) ≡ false) qs t n ahead, toggled-next b ps qs s t ascends passed ahead n)
      overlap-next t false n k = grind (arith, lacking)
