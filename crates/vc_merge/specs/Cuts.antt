-- Where a range of an ordered list begins and ends. No public clause cites these words.
use Rattle.std.specs.Prelude.{◌≡◌, ℕ, ◌≤◌, Bool, true, false, cond, not, List, length, take, drop}
use Rattle.std.specs.List.{AllByRecursion}
use Rattle.std.specs.Ordering.{is_le, is_lt}
use Rattle.std.specs.declared.cmp.Ordering.{Ordering}
use Rattle.std.specs.declared.ops.Bound.{Bound}
use Rattle.std.specs.declared.ops.Bound.TheVariants.{Included, Excluded, Unbounded}

-- an element that compares so with what is sought is before it, or is equal to it where that counts
abbrev pub passes : Bool → Ordering → Bool
passes with_equal o = cond with_equal (is_le o) (is_lt o)

module _ {X S : Type 0} (side : S → X → Ordering) where
  -- y is before a range that starts here, or, at the end of a range, not after it
  abbrev pub is_in_front : Bool → Bound S → X → Bool
  is_in_front at_end (Included s) y = passes at_end (side s y)
  is_in_front at_end (Excluded s) y = passes (not at_end) (side s y)
  is_in_front at_end Unbounded y = at_end

-- the first i elements pass the test, and the others fail it
pub record IsCut {X : Type 0} (test : X → Bool) (xs : List X) (i : ℕ) : Type 0 where
  pub within : i ≤ length xs
  pub pass : AllByRecursion (λ y. test y ≡ true) (take i xs)
  pub fail : AllByRecursion (λ y. test y ≡ false) (drop i xs)
