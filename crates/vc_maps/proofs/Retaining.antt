-- What a test leaves of a map, key by key, and clones of its pairs.
use Rattle.std.proofs.Common.{◌≡◌, Bool, true, false, List, [], ◌∷◌}
use Rattle.std.specs.Cmp.{IsTotalOrder}
use Rattle.std.specs.List.{AllZip, items_where_true}
use Rattle.std.specs.List.Retain.{IsFiltered}
use Rattle.std.specs.Map.{keys_of}
use Rattle.std.specs.declared.cmp.Ordering.{Ordering}
use Rattle.std.proofs.lemmas.Cmp.{on_total}
use Rattle.vc_merge.specs.Yielded.{by_first, keys-ascend}
use Rattle.vc_merge.proofs.ListLemmas.{pairs-ascend}
use Rattle.vc_joins.specs.Entries.{AscendsByKey, entry_at}
use Rattle.vc_maps.proofs.ByForm.{entry-element}
use Rattle.vc_merge.specs.Retaining.{IsRetained}
use Rattle.vc_merge.proofs.Chosen.{ascends-chosen}
use Rattle.vc_merge.proofs.Retained.{asked}

-- nothing is chosen of an empty list
none-left : {X : Type 0} (bs : List Bool) (ys : List X) → ys ≡ items_where_true bs [] → ys ≡ []
none-left [] ys e = e
none-left (true ∷ bs) ys e = e
none-left (false ∷ bs) ys e = e

module _ {K V : Type 0} (cmp : K → K → Ordering) (total : IsTotalOrder cmp) where
  module _ {F : Type 0} (calls : F → K × V → Bool → F → Type 0) where
    pub entries-asked : (f : F) (xs ys : List (K × V)) → AscendsByKey cmp xs → IsFiltered calls f xs ys → (k : K)
        → IsRetained calls (entry_at cmp xs k) (entry_at cmp ys k)
    entries-asked f [] ys p h k = rw (none-left h.0 ys h.4)
    entries-asked f (x ∷ xs) ys p h k =
        rw (entry-element total (x ∷ xs) k, entry-element total ys k)
        (asked (by_first cmp) (on_total (λ p. p.0) total) calls f (x ∷ xs) ys (pairs-ascend cmp (x ∷ xs) p) h (k, x.1))

  pub chosen-ascends : (bs : List Bool) (xs : List (K × V)) → AscendsByKey cmp xs → AscendsByKey cmp (items_where_true bs xs)
  chosen-ascends bs xs p = keys-ascend cmp (items_where_true bs xs) (ascends-chosen (by_first cmp) bs xs (pairs-ascend cmp xs p))

-- the clones of pairs have the clones of the keys
pub keys-cloned : {K V : Type 0} (R : K → K → Type 0) (S : V → V → Type 0) (xs ys : List (K × V))
    → AllZip (λ p q. R p.0 q.0 × S p.1 q.1) xs ys → AllZip R (keys_of xs) (keys_of ys)
keys-cloned R S [] [] h = tt
keys-cloned R S (x ∷ xs) (y ∷ ys) h = (h.0.0, keys-cloned R S xs ys h.1)
keys-cloned R S xs ys h = absurd h
