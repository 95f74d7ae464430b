-- How many binary digits a number has.
--     digits-enough, digits-least        n is below 2 ^ digits n, and below no lesser power
--     digits-monotone, digits-half        of a greater number, and of half a number
--     digits-from_zeros        as many as the bits below the leading zeros
use Rattle.std.proofs.Common.{◌≡◌, ℕ, zero, suc, ◌+◌, ◌-◌, ◌/◌, ◌^◌, ◌<◌, ◌≤◌, arith}
use Rattle.std.proofs.Math.Nat.{pow-suc}
use Rattle.std.proofs.Math.Pow.{pow_mono}
use Rattle.std.proofs.lemmas.Nat.{leading_length, pow_pos}
use Rattle.std.specs.Int.Count.{count_leading_zeros}
use Rattle.vc_merge.specs.Count.{digits, digits_from}

enough : (n tries d : ℕ) → n < 2 ^ (d + tries) → n < 2 ^ digits_from n tries d
unfolding digits_from
enough n zero d h = grind arith
enough n (suc tries) d h = grind (arith, enough n tries (suc d))

least : (n tries d e : ℕ) → d ≤ e → n < 2 ^ e → digits_from n tries d ≤ e
unfolding digits_from
least n zero d e k h = k
least n (suc tries) d e k h = grind (arith, least n tries (suc d) e)

below-power : (n : ℕ) → n < 2 ^ n
below-power zero = pow_pos 0
below-power (suc n) = grind (arith, below-power n)

pub digits-enough : (n : ℕ) → n < 2 ^ digits n
unfolding digits
digits-enough n = grind (arith, enough, below-power)

pub digits-least : (n e : ℕ) → n < 2 ^ e → digits n ≤ e
unfolding digits
digits-least n e h = grind (arith, least)

pub digits-monotone : (m n : ℕ) → m ≤ n → digits m ≤ digits n
digits-monotone m n h = grind (arith, digits-least, digits-enough)

half-below : (n e : ℕ) → 0 < n → n < 2 ^ e → suc (digits (n / 2)) ≤ e
half-below n zero p h = grind arith
half-below n (suc e) p h = grind (arith, pow-suc, digits-least)

-- half of a number has one digit less
pub digits-half : (n : ℕ) → 0 < n → digits n ≡ suc (digits (n / 2))
digits-half n p = grind (arith, pow-suc, digits-enough, half-below, digits-least)

pub digits-from_zeros : (bits n : ℕ) → n < 2 ^ bits → bits - count_leading_zeros bits n ≡ digits n
digits-from_zeros bits n h =
    let m = leading_length bits n h in
    grind (arith, m.1, m.2, m.3, digits-least n m.0, digits-enough n, pow_mono {i = suc (digits n)} {j = m.0}, pow-suc)
