-- Opening hours.
use Rattle.std.specs.Prelude.{Bool, ℕ}
use Rattle.std.specs.Ordering.{nat_cmp}
use Rattle.vec_collections.specs.Boundaries.{holds}
use Rattle.users.specs.declared.hours.Hours.{Hours}

-- the shop is open at the hour
abbrev pub is_open : Hours → ℕ → Bool
is_open hours hour = holds nat_cmp hours.open hour
