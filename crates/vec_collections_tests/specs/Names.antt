-- Names of users, by their letters.
use denote.Ref.{Bor}
use Rattle.std.specs.Prelude.{◌≡◌, ℕ, Bool, List, String, string_bytes}
use Rattle.std.specs.Cmp.Lexicographic.{slice_cmp}
use Rattle.std.specs.Ordering.{is_eq, nat_cmp}
use Rattle.std.specs.declared.cmp.Ordering.{Ordering}
use Rattle.std.specs.declared.cmp.Ordering.TheVariants.{Equal}

module _ {Z : Type 0} where
  -- whether a name has exactly these letters
  abbrev pub has_letters : List ℕ → String Z → Bool
  has_letters letters name = is_eq (slice_cmp nat_cmp (string_bytes name) letters)

  -- a name has exactly these letters
  abbrev pub IsSpelled : List ℕ → String Z → Type 0
  IsSpelled letters name = slice_cmp nat_cmp (string_bytes name) letters ≡ Equal

-- borrowed texts, in the order of their letters
abbrev pub by_letters : Bor (List ℕ) → Bor (List ℕ) → Ordering
by_letters one other = slice_cmp nat_cmp one.now other.now
