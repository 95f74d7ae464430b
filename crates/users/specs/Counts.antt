-- Counters by name.
use Rattle.std.specs.Prelude.{ℕ, min, ◌-◌, ◌^◌}
use Rattle.std.specs.Ordering.{nat_cmp}
use Rattle.vec_collections.specs.TotalMap.{at}
use Rattle.users.specs.declared.counters.Counters.{Counters}

-- the count of a name
abbrev pub count_of : Counters → ℕ → ℕ
count_of counters name = at nat_cmp counters.counts name

-- n, or the greatest number of 64 bits where n does not fit
abbrev pub bounded : ℕ → ℕ
bounded n = min n (2 ^ 64 - 1)
