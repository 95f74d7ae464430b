-- An ordered list that is cut where a range begins and where it ends.
--     cut-found, cut-gap, cut-one        where a search leads to
--     cuts-filter        what lies between two cuts
--     range-sought        ends that are sought, as the ends of a range
use Rattle.std.proofs.Common.{◌≡◌, ℕ, zero, suc, ◌+◌, ◌-◌, min, Bool, true, false, not, ◌&&◌, List}
use Rattle.std.proofs.Common.{[], ◌∷◌, length, take, drop, get_or, arith}
use Rattle.std.specs.BTreeMap.Range.{range_contains}
use Rattle.std.specs.Cmp.{IsTotalOrder}
use Rattle.std.specs.Int.{from_bool}
use Rattle.std.specs.List.{filter}
use Rattle.std.specs.Range.Bound.{bound_map}
use Rattle.std.specs.declared.cmp.Ordering.{Ordering}
use Rattle.std.specs.declared.cmp.Ordering.TheVariants.{Less, Greater}
use Rattle.std.specs.declared.ops.Bound.{Bound}
use Rattle.vc_merge.specs.Cuts.{IsCut, is_in_front, passes}
use Rattle.vc_merge.specs.Place.{IsFound, IsGap, IsOrdered, IsRest}
use Rattle.vc_merge.proofs.ListLemmas.{each-weaker, each-upto, each-from}
use Rattle.vc_merge.proofs.PlaceLemmas.{place-equal, place-unequal}

-- ---- where a search leads to

module _ {X : Type 0} (side : X → Ordering) where
  passes-less : (b : Bool) (y : X) → side y ≡ Less → passes b (side y) ≡ true
  passes-less b y e = grind arith

  passes-greater : (b : Bool) (y : X) → side y ≡ Greater → passes b (side y) ≡ false
  passes-greater b y e = grind arith

  pub cut-gap : (b : Bool) (xs : List X) (i : ℕ) → IsGap side xs i → IsCut (λ y. passes b (side y)) xs i
  cut-gap b xs i g = grind (arith, each-weaker, passes-less, passes-greater)

  pub cut-found : (b : Bool) (xs : List X) (i : ℕ) → IsFound side xs i → IsCut (λ y. passes b (side y)) xs (i + from_bool b)
  cut-found b xs i f = grind (
    arith,
    each-weaker,
    passes-greater,
    passes-less,
    each-upto (λ y. passes b (side y) ≡ true) xs i,
    each-from (λ y. passes b (side y) ≡ false) xs i,
  )

  -- where one element is left to search, which passes or fails
  pub cut-one : (b t : Bool) (xs : List X) (start : ℕ) (one : List X) (y : X) (o : Ordering) → IsOrdered side xs
      → IsRest side xs start one → length one ≡ 1 → y ≡ get_or one 0 y → o ≡ side y → t ≡ passes b o
      → IsCut (λ y. passes b (side y)) xs (start + from_bool t)
  cut-one b t xs start one y o p q h e f g = grind (
    arith,
    cut-gap b xs (start + from_bool t),
    cut-found b xs start,
    place-equal side xs start one p q h y e o f,
    place-unequal side xs start one p q h y e o t f,
  )

-- ---- what lies between two cuts

module _ {X : Type 0} where
  -- what fails the one test and passes the other
  from-to : (p q : X → Bool) (xs : List X) (i j : ℕ) → IsCut p xs i → IsCut q xs j
      → take (j - i) (drop i xs) ≡ filter (λ y. not (p y) && q y) xs
  from-to p q [] i j c d = grind arith
  from-to p q (x ∷ xs) zero zero c d = grind (arith, from-to p q xs 0 0)
  from-to p q (x ∷ xs) zero (suc j) c d = let z : suc j - 0 ≡ suc j = omega arith in rw z (grind (arith, from-to p q xs 0 j))
  from-to p q (x ∷ xs) (suc i) zero c d = grind (arith, from-to p q xs i 0)
  from-to p q (x ∷ xs) (suc i) (suc j) c d = grind (arith, from-to p q xs i j)

  pub cuts-filter : (p q : X → Bool) (xs : List X) (i j k : ℕ) → IsCut p xs i → IsCut q xs j → k ≡ min i j
      → take (j - k) (drop k xs) ≡ filter (λ y. not (p y) && q y) xs
  cuts-filter p q xs i j k c d e = grind (arith, from-to p q xs i j)

-- ---- ends that are sought

module _ {K : Type 0} (cmp : K → K → Ordering) (total : IsTotalOrder cmp) {X S : Type 0} (key : X → K) (of : S → K) where
  pub range-sought : (start end : Bound S) (lo hi : Bound K) → bound_map of start ≡ lo → bound_map of end ≡ hi → (xs : List X)
      → filter (λ y. not (is_in_front (λ s y. cmp (key y) (of s)) false start y)
      && is_in_front (λ s y. cmp (key y) (of s)) true end y) xs
      ≡ filter (λ x. range_contains cmp lo hi (key x)) xs
  range-sought start end lo hi e f xs = grind arith
