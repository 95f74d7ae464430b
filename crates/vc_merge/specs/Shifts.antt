-- Elements that move within their list. No public clause cites these words.
use Rattle.std.specs.Prelude.{◌≡◌, ℕ, ◌+◌, ◌-◌, List, ◌++◌, take, drop, length, slice_range}
use Rattle.std.specs.declared.cmp.Ordering.{Ordering}
use Rattle.std.specs.declared.cmp.Ordering.TheVariants.{Less, Equal, Greater}

-- where the lesser of two elements is, or the left one of two equal ones, by how they compare
abbrev pub lesser_place : Ordering → ℕ → ℕ → ℕ
lesser_place Less m n = m
lesser_place Equal m n = m
lesser_place Greater m n = n

module _ {X : Type 0} where
  -- the elements from start to end moved up to the place `next`; those before start and from `next`
  -- on are unchanged
  pub record MovesUp (old : List X) (start end next : ℕ) (new : List X) : Type 0 where
    pub same_length : length new ≡ length old
    pub front : take start new ≡ take start old
    pub moved : slice_range new (start + (next - end)) next ≡ slice_range old start end
    pub rest : drop next new ≡ drop next old

  -- the n elements from `next` on moved down to the place `at`, and the elements from `at` to
  -- `next` up after them
  pub record Turns (old : List X) (at next n : ℕ) (new : List X) : Type 0 where
    pub same_length : length new ≡ length old
    pub front : take (at + n) new ≡ take at old ++ take n (drop next old)
    pub moved : slice_range new (at + n) (next + n) ≡ slice_range old at next
    pub rest : drop (next + n) new ≡ drop (next + n) old

  -- the n elements from `next` on were swapped with those from `at` on
  pub record Trades (old : List X) (at next n : ℕ) (new : List X) : Type 0 where
    pub same_length : length new ≡ length old
    pub front : take (at + n) new ≡ take at old ++ take n (drop next old)
    pub between : slice_range new (at + n) next ≡ slice_range old (at + n) next
    pub rest : drop (next + n) new ≡ drop (next + n) old
