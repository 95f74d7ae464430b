-- Releases of programs, which have a name and a number.
use Rattle.std.specs.Prelude.{ℕ, List}
use Rattle.std.specs.Cmp.{IsTotalOrder, nat_cmp_total, on_total, then_total}
use Rattle.std.specs.Cmp.Lexicographic.{nat_list_cmp_total, slice_cmp}
use Rattle.std.specs.Ordering.{nat_cmp, ordering_then}
use Rattle.std.specs.declared.cmp.Ordering.{Ordering}

-- releases are ordered by name, and then by number
abbrev pub release_cmp : List ℕ × ℕ → List ℕ × ℕ → Ordering
release_cmp x y = ordering_then (slice_cmp nat_cmp x.0 y.0) (nat_cmp x.1 y.1)

pub release_total : IsTotalOrder release_cmp
release_total = then_total (on_total (λ (x : List ℕ × ℕ). x.0) nat_list_cmp_total) (on_total (λ (x : List ℕ × ℕ). x.1) nat_cmp_total)
