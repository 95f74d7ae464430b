-- Numbers that are read digit by digit.
use Rattle.std.proofs.Common.{arith, ◌≡◌, ap, refl, ℕ, ◌+◌, ◌*◌, ◌^◌, ◌<◌, ◌≤◌, Bool, true, false, ◌&&◌}
use Rattle.std.proofs.Common.{if◌then◌else◌, nat_lt, IsTrue, List, [], ◌∷◌, Option, Some, None, length, slice_index}
use Rattle.std.proofs.lemmas.Bool.{le-ltb}
use Rattle.std.specs.Char.{is_ascii_digit, digit_value}
use Rattle.std.specs.Str.{all_ascii_digits}
use Rattle.std.specs.Str.Parse.{digits_value_after}

-- the number whose digits are those of n and the word
abbrev pub number_after : ℕ → List ℕ → Option ℕ
number_after n word = if all_ascii_digits word && nat_lt (digits_value_after 10 n word) (2 ^ 64) then Some
    (digits_value_after 10 n word) else None

-- further digits make no number smaller
pub digits_value_after-le : (n : ℕ) (word : List ℕ) → n ≤ digits_value_after 10 n word
digits_value_after-le n [] = omega arith
digits_value_after-le n (c ∷ cs) =
    let more : n * 10 + digit_value c ≤ digits_value_after 10 (n * 10 + digit_value c) cs =
    digits_value_after-le (n * 10 + digit_value c) cs in
    omega (arith, more)

-- there is no number where its first byte is no digit, or where it does not fit
pub no-number : (digit others : Bool) (n : ℕ) → (digit ≡ true → 2 ^ 64 ≤ n)
    → (if (digit && others) && nat_lt n (2 ^ 64) then Some n else None) ≡ None
no-number false others n big = refl
no-number true false n big = refl
no-number true true n big = ap (λ fits. if fits then Some n else None) (le-ltb n (2 ^ 64) (big refl))

-- a word whose first byte can't be appended to n says no number behind n
pub number_after-refused : (n : ℕ) (word : List ℕ) → 1 ≤ length word
    → ¬ (IsTrue (is_ascii_digit (slice_index word 0)) × (n * 10 + digit_value (slice_index word 0) < 2 ^ 64))
    → number_after n word ≡ None
number_after-refused n [] some refused = absurd (omega (arith, some))
number_after-refused n (c ∷ cs) some refused =
    no-number (is_ascii_digit c) (all_ascii_digits cs) (digits_value_after 10 (n * 10 + digit_value c) cs) (λ is.
    let more : n * 10 + digit_value c ≤ digits_value_after 10 (n * 10 + digit_value c) cs =
    digits_value_after-le (n * 10 + digit_value c) cs in
    let big : ¬ (n * 10 + digit_value c < 2 ^ 64) = λ fits. refused (is, fits) in
    omega (arith, more, big))
