-- Pieces of articles, in words that speak of one article at a time.
use Rattle.std.specs.Prelude.{ℕ, ◌+◌, ◌-◌, ◌^◌, min, max, Option, Some, None}

-- the pieces of two places together, as far as a number of 32 bits holds them
abbrev pub together : Option ℕ → Option ℕ → Option ℕ
together (Some here) (Some there) = Some (min (here + there) (2 ^ 32 - 1))
together (Some here) None = Some here
together None there = there

-- what is left of the pieces of an article where some were sold
abbrev pub left_over : ℕ → Option ℕ → Option ℕ
left_over held None = Some held
left_over held (Some sold) = Some (held - sold)

-- as many as are held, and at least as many as are listed
abbrev pub filled : Option ℕ → ℕ → Option ℕ
filled (Some held) listed = Some (max held listed)
filled None listed = Some listed

-- what is held, where there is no hold on it
abbrev pub unless_held : ℕ → Option ℕ → Option ℕ
unless_held held None = Some held
unless_held held (Some hold) = None

-- what is held, or otherwise what is listed
abbrev pub held_or : Option ℕ → ℕ → Option ℕ
held_or (Some held) listed = Some held
held_or None listed = Some listed
