-- Pairs that ascend by key ascend as pairs.
use Rattle.std.proofs.Common.{◌≡◌, List, [], ◌∷◌, ap}
use Rattle.std.specs.List.{AllByRecursion}
use Rattle.std.specs.List.Sorted.{IsStrictlySortedBy}
use Rattle.std.specs.Map.{keys_of}
use Rattle.std.specs.Ordering.{ordering_then}
use Rattle.std.specs.declared.cmp.Ordering.{Ordering}
use Rattle.std.specs.declared.cmp.Ordering.TheVariants.{Less}
use Rattle.vc_merge.specs.Ascending.{Ascends}
use Rattle.vc_joins.specs.Entries.{AscendsByKey}

module _ {K V : Type 0} (cmp : K → K → Ordering) (values : V → V → Ordering) where
  abbrev pub by_both : K × V → K × V → Ordering
  by_both p q = ordering_then (cmp p.0 q.0) (values p.1 q.1)

  above-as_pairs : (p : K × V) (xs : List (K × V)) → AllByRecursion (λ k. cmp p.0 k ≡ Less) (keys_of xs)
      → AllByRecursion (λ q. by_both p q ≡ Less) xs
  above-as_pairs p [] h = tt
  above-as_pairs p (x ∷ xs) h = (ap (λ o. ordering_then o (values p.1 x.1)) h.0, above-as_pairs p xs h.1)

  pub ascend-as_pairs : (xs : List (K × V)) → AscendsByKey cmp xs → Ascends by_both xs
  unfolding IsStrictlySortedBy
  ascend-as_pairs [] p = tt
  ascend-as_pairs (x ∷ xs) p = (above-as_pairs x xs p.0, ascend-as_pairs xs p.1)
