-- What is spent by a search that goes in strides, and by searches one after the other.
--     stride-within        how many strides lead to a place
--     place-paid, more-paid, last-paid        the searches for some elements, one behind the other
--     strides-few        by strides of the share that each element has of the others, they spend no more than by halves
use Rattle.std.proofs.Common.{◌≡◌, ℕ, zero, suc, ◌+◌, ◌*◌, ◌/◌, ◌^◌, ◌<◌, ◌≤◌, min, arith}
use Rattle.std.proofs.Math.Nat.{add-mul-div_right, div-mul-le_self, mul-le-mul_left, mul-pos, mul-le-mul_right}
use Rattle.std.proofs.Math.Nat.{mul_assoc, mul_comm, div-lt_iff_lt-mul, lt-mul-div-succ, pow-suc}
use Rattle.std.proofs.lemmas.Bool.{cases_lt}
use Rattle.std.proofs.lemmas.Nat.{le-div, pow_pos}
use Rattle.vc_merge.specs.Count.{by_strides, digits}
use Rattle.vc_merge.proofs.Digits.{digits-enough, digits-least, digits-half, digits-monotone}

-- no further with fewer
pub stride-within : (m n k : ℕ) → 0 < k → m ≤ n → m / k ≤ n / k
stride-within m n k h l = grind arith

-- two ways together are no shorter
apart : (m n k : ℕ) → 0 < k → m / k + n / k ≤ (m + n) / k
apart m n k h = grind (arith, div-mul-le_self m k, add-mul-div_right n (m / k) h, stride-within (n + m / k * k) (m + n) k h)

-- ---- one search more

-- the search that found a place behind p of n others, which leaves r of them
pub place-paid : (t a b p n r : ℕ) → b ≤ a + t + min (n / 2 ^ t) (p / 2 ^ t + 1) → r + p ≤ n → b + r / 2 ^ t
    ≤ a + (t + 1) + n / 2 ^ t
place-paid t a b p n r h l =
    grind (arith, apart p r (2 ^ t), stride-within (p + r) n (2 ^ t), pow_pos t)

-- one element fewer is left to search for, and r others of n
pub more-paid : (t a : ℕ) {b : ℕ} (few before n r : ℕ) {start : ℕ} → few < before → b ≤ a + t + n / 2 ^ t → b + r / 2 ^ t ≤ a +
    (t + 1) + n / 2 ^ t
    → a + by_strides t before n ≤ start → b + by_strides t few r ≤ start
more-paid t a {b} few zero n r {start} h k l w = grind arith
more-paid t a {b} zero (suc before) n r {start} h k l w = grind arith
more-paid t a {b} (suc few) (suc before) n r {start} h k l w =
    grind (arith, mul-le-mul_right {m = suc (suc few)} {n = suc before} t)

-- it was the last search
pub last-paid : (t a b before n start : ℕ) → 0 < before → b ≤ a + t + n / 2 ^ t → a + by_strides t before n ≤ start → b ≤ start
last-paid t a b before n start h k w = grind arith

-- ---- strides of the share

-- a product with a power of two has so many digits more
digits-shifted : (t u : ℕ) → 0 < u → t + digits u ≤ digits (u * 2 ^ t)
digits-shifted zero u h = grind arith
digits-shifted (suc t) u h =
    grind (arith, pow-suc, mul_assoc u (2 ^ t) 2, digits-half (u * 2 ^ t * 2), digits-shifted t u h, mul-pos {m = u}, pow_pos t)

-- so many searches and strides are paid by so many digits
strides-paid : (s u : ℕ) → 0 < s → s ≤ u → u < 2 * s → s + u ≤ s * digits u + 1
strides-paid s u h l k =
    grind (arith, cases_lt, mul-le-mul_left, digits-half u, digits-half (u / 2), digits-half (u / 2 / 2))

-- the share q of n that each of s has, and the greatest power of two that is no greater
pub strides-few : (s n q t : ℕ) → 0 < s → s ≤ n → q ≡ n / s → suc t ≡ digits q → by_strides t s n ≤ s * digits n
strides-few zero n q t h l e d = grind arith
strides-few (suc s) n q t h l e d =
    let some = pow_pos t in
    let power = pow-suc 2 t in
    let reached : 2 ^ t ≤ q = grind (arith, digits-least q t) in
    let least : suc s ≤ n / 2 ^ t = le-div (suc s) n (2 ^ t) some
    (grind (arith, div-mul-le_self n (suc s), mul-le-mul_left {m = 2 ^ t} {n = q} (suc s) reached, mul_comm)) in
    let most : n / 2 ^ t < 2 * suc s = (div-lt_iff_lt-mul some).1
    (grind (arith, lt-mul-div-succ n {b = suc s}, digits-enough q, mul-le-mul_left {m = q + 1} {n = 2 ^ t * 2} (suc s))) in
    grind (
      arith,
      strides-paid (suc s) (n / 2 ^ t) h least most,
      digits-shifted t (n / 2 ^ t),
      digits-monotone (n / 2 ^ t * 2 ^ t) n (div-mul-le_self n (2 ^ t)),
      mul-le-mul_left {m = t + digits (n / 2 ^ t)} {n = digits n} (suc s),
    )
