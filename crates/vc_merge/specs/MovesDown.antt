-- Elements that move down their list. No public clause cites these words.
use Rattle.std.specs.Prelude.{◌≡◌, ℕ, ◌+◌, List, ◌++◌, take, drop, length}

-- the n elements of the list from the place `at` on moved down to the place `kept`; those before
-- and after are unchanged
pub record MovesDown {X : Type 0} (old : List X) (kept at n : ℕ) (new : List X) : Type 0 where
  pub same_length : length new ≡ length old
  pub front : take (kept + n) new ≡ take kept old ++ take n (drop at old)
  pub rest : drop (at + n) new ≡ drop (at + n) old
