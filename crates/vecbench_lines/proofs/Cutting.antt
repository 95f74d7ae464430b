-- A text that is cut at its first separator.
use Rattle.std.proofs.Common.{arith, ◌≡◌, ◌∙◌, ap, sym, refl, ℕ, zero, suc, ◌+◌, ◌-◌, ◌<◌, ◌≤◌, Bool, true, false}
use Rattle.std.proofs.Common.{List, [], ◌∷◌, length, take, drop, slice_index}
use Rattle.std.specs.List.{slice_split, onto_first}
use Rattle.std.proofs.Math.Seq.{take-length}
use Rattle.std.proofs.lemmas.List.{length-drop}
use Rattle.memchr.specs.Find.{NoneBefore, Passes}
use Rattle.std.proofs.lemmas.List.Splits.{slice_split-cons_yes, slice_split-cons_no}

-- a test that does not pass fails
pub test-fails : (b : Bool) → ¬ (b ≡ true) → b ≡ false
test-fails true h = absurd (h refl)
test-fails false h = refl

-- where no separator stands, the text is the one part
pub slice_split-none : (test : ℕ → Bool) (xs : List ℕ)
    → ((k : ℕ) → 0 ≤ k → k < length xs → ¬ (test (slice_index xs k) ≡ true)) → slice_split test xs ≡ xs ∷ []
slice_split-none test [] none = refl
slice_split-none test (x ∷ xs) none =
    slice_split-cons_no test x xs (test-fails (test x) (none 0 (omega arith) (omega arith))) ∙
    ap (λ parts. onto_first x parts) (slice_split-none test xs (λ k low high. none (suc k) (omega arith) (omega arith)))

-- the first part ends at the first separator
pub slice_split-first : (test : ℕ → Bool) (xs : List ℕ) (k : ℕ) → k < length xs
    → ((j : ℕ) → 0 ≤ j → j < k → ¬ (test (slice_index xs j) ≡ true)) → test (slice_index xs k) ≡ true
    → slice_split test xs ≡ take k xs ∷ slice_split test (drop (suc k) xs)
slice_split-first test [] k high none at = absurd (omega (arith, high))
slice_split-first test (x ∷ xs) zero high none at = slice_split-cons_yes test x xs at
slice_split-first test (x ∷ xs) (suc k) high none at =
    slice_split-cons_no test x xs (test-fails (test x) (none 0 (omega arith) (omega arith))) ∙
    ap (λ parts. onto_first x parts)
    (slice_split-first test xs k (omega arith) (λ j low below. none (suc j) (omega arith) (omega arith)) at)

-- the same of what the search for a separator answers
pub slice_split-cut : (test : ℕ → Bool) (xs rest : List ℕ) (k : ℕ) → NoneBefore (Passes test xs) 0 (length xs) k
    × Passes test xs k → rest ≡ drop (k + 1) xs
    → slice_split test xs ≡ take k xs ∷ slice_split test rest
slice_split-cut test xs rest k found is =
    let next : k + 1 ≡ suc k = omega arith in
    slice_split-first test xs k found.0.high found.0.before found.1 ∙
    ap (λ behind. take k xs ∷ slice_split test behind) (sym (is ∙ ap (λ n. drop n xs) next))

-- what stands behind n elements, as a slice from there to the end
pub take-drop_rest : {X : Type 0} (n : ℕ) (xs : List X) → take (length xs - n) (drop n xs) ≡ drop n xs
take-drop_rest n xs = ap (λ m. take m (drop n xs)) (sym (length-drop n xs)) ∙ take-length (drop n xs)
