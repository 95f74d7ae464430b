-- A list of pairs in any order, sorted by its keys: the first pair with a key is the one at that key.
use Rattle.std.proofs.Common.{◌≡◌, Bool, List, refl}
use Rattle.std.specs.Cmp.{IsTotalOrder}
use Rattle.std.specs.List.{dedup}
use Rattle.std.specs.List.Sorted.{IsStableBy}
use Rattle.std.specs.Ordering.{is_eq, is_lt}
use Rattle.std.specs.declared.cmp.Ordering.{Ordering}
use Rattle.vc_joins.specs.Entries.{entry_at, value_at}
use Rattle.vc_joins.proofs.Functions.{value-entry}
use Rattle.vc_merge.proofs.Unordered.{found-unordered}
use Rattle.vc_maps.proofs.ByForm.{entry-element}

module _ {K V : Type 0} (cmp : K → K → Ordering) where
  -- lists with the same entry have the same value
  pub values-of_entries : (es fs : List (K × V)) (k : K) → entry_at cmp es k ≡ entry_at cmp fs k → value_at cmp es k
      ≡ value_at cmp fs k
  values-of_entries es fs k h = cc (value-entry cmp es k, value-entry cmp fs k)

  pub entry-unordered : (total : IsTotalOrder cmp) (same : K × V → K × V → Bool)
      → ((x y : K × V) → same x y ≡ is_eq (cmp x.0 y.0)) → (xs ys : List (K × V))
      → IsStableBy (λ x y. is_lt (cmp x.0 y.0)) xs ys → (k : K) → entry_at cmp (dedup same ys) k ≡ entry_at cmp xs k
  entry-unordered total same matches xs ys stable k =
      rw (entry-element total (dedup same ys) k, entry-element total xs k)
      (found-unordered cmp total (λ e. e.0) (λ e. is_eq (cmp e.0 k)) k (λ e. refl) same matches xs ys stable)
