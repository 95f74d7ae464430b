-- What a map is once one key was written to, or bound where it was not: the clauses of `upsert`.
use Rattle.std.proofs.Common.{◌≡◌, ℕ, ◌++◌, ◌∷◌, take, drop, false, cond, List, get_or, set, length, Some, refl, sym, ap, arith}
use Rattle.std.specs.Cmp.{IsTotalOrder, tied_itself}
use Rattle.std.specs.List.{refill}
use Rattle.std.specs.Option.{option_map, unwrap_or}
use Rattle.std.specs.Ordering.{eq_by_cmp}
use Rattle.std.specs.declared.cmp.Ordering.{Ordering}
use Rattle.vc_merge.specs.Place.{IsFound, IsGap}
use Rattle.vc_joins.specs.Entries.{AscendsByKey, entry_at, value_at}
use Rattle.vc_joins.proofs.Functions.{value-entry}
use Rattle.vc_maps.specs.Updating.{UpsertsEntry, UpsertsValue}
use Rattle.vc_maps.proofs.Editing.{IsChanged, found-changed, found-entry, gap-changed, gap-entry}
use Rattle.vc_maps.proofs.Written.{refilled-set}

module _ {K V : Type 0} {cmp : K → K → Ordering} (total : IsTotalOrder cmp) where
  -- the value of the pair at a place is written
  pub place-written : {es : List (K × V)} {key : K} {i : ℕ} {x : K × V} → IsFound (λ p. cmp p.0 key) es i → x ≡ get_or es i x
      → AscendsByKey cmp es → (w : V) → IsChanged total es key (x.0, w) (set es i (x.0, w))
  place-written {x = x} found is p w = found-changed total refl refl found p (x.0, w) (rw (← is) at (found.equal x)) refl

  module _ (writes : V → V → Type 0) (key : K) (default : V) where
    pub record IsUpserted (es new : List (K × V)) : Type 0 where
      pub ascends : AscendsByKey cmp new
      pub value : UpsertsValue writes default (value_at cmp es key) (value_at cmp new key)
      pub entry : UpsertsEntry writes (key, default) (entry_at cmp es key) (entry_at cmp new key)
      pub others : (k : K) → eq_by_cmp cmp k key ≡ false → entry_at cmp new k ≡ entry_at cmp es k
      pub other_values : (k : K) → eq_by_cmp cmp k key ≡ false → value_at cmp new k ≡ value_at cmp es k
      pub plain : (g : V → V) → ((v w : V) → writes v w → w ≡ g v) → (k : K)
          → value_at cmp new k
          ≡ cond (eq_by_cmp cmp k key) (Some (unwrap_or (option_map g (value_at cmp es key)) default)) (value_at cmp es k)

    upserts : {es new : List (K × V)} (now : K × V) → IsChanged total es key now new
        → UpsertsEntry writes (key, default) (entry_at cmp es key) (Some now) → IsUpserted es new
    upserts {es} now h did = record {
      ascends = h.ascends;
      value = grind (arith, h.values key, tied_itself total key, value-entry cmp es key);
      entry = grind (arith, h.entries key, tied_itself total key);
      others = λ k e. grind (arith, h.entries k);
      other_values = λ k e. grind (arith, h.values k);
      plain = λ g does k. grind (arith, h.values k, value-entry cmp es key);
    }

    -- a new pair
    pub upserts-new : {es old slice new : List (K × V)} {i : ℕ} → es ≡ old → slice ≡ es → IsGap (λ p. cmp p.0 key) slice i
        → AscendsByKey cmp es → new ≡ take i es ++ (key, default) ∷ drop i es → IsUpserted old new
    upserts-new same e g p n =
        rw (← same) (upserts (key, default) (gap-changed total refl e g p default n) (rw (gap-entry total (rw e at g)) refl))

    -- a value written through the slice of the list
    pub upserts-place : {es old slice : List (K × V)} {i : ℕ} {x : K × V} → es ≡ old → slice ≡ es
        → IsFound (λ p. cmp p.0 key) es i → x ≡ get_or slice i x → AscendsByKey cmp es → (w : V) → writes x.1 w
        → IsUpserted old (refill (length es) es (set slice i ((get_or slice i x).0, w)))
    upserts-place {es} {old} {slice} {i} {x} same e found is p w did =
        let here : x ≡ get_or es i x = rw e at is in
        rw (← same, refilled-set i e (ap (λ q. (q.0, w)) (sym is)))
        (upserts (x.0, w) (place-written found here p w) (rw (found-entry total found x, ← here) (refl, did)))
