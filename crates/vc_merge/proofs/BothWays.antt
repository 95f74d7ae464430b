-- An iterator that is seen as the list of what it has left shows that list from both ends.
use Rattle.core.proofs.iter.runs.Sources.{from_front, from_back}
use Rattle.std.proofs.Common.{◌≡◌, ◌^◌, ◌<◌, List, length, map, ap, arith}
use Rattle.std.proofs.lemmas.List.{length-map}
use Rattle.std.specs.Map.Iter.{TakesFirst, TakesLast, deref}
use Rattle.vc_merge.specs.Showing.{ShowsBothWays}

pub shows_both_ways : {X : Type 0} (xs it : List X) → it ≡ xs → length it < 2 ^ 64 → ShowsBothWays xs it
shows_both_ways {X} xs it e few = (
  e,
  few,
  from_front (TakesFirst (deref {X = X})) deref (λ s. s) (λ s t h. ap length h.0) (λ s x t h. h),
  from_back (TakesLast (deref {X = X})) deref (λ s. s) (λ s t h. ap length h.0) (λ s x t h. h),
)

-- what is made of each element of such a list
pub shows_mapped : {X Y : Type 0} (f : X → Y) (xs it : List X) → it ≡ xs → length it < 2 ^ 64
    → ShowsBothWays (map f xs) (map f it)
shows_mapped f xs it e few = grind (arith, length-map it f, shows_both_ways (map f xs) (map f it))
