-- What a map is once a key is bound to what was written through a reference.
--     IsPut, put-new        a pair is inserted
--     lent-value, bound        what the loan shows, and what is written through it
use Rattle.std.proofs.Common.{◌≡◌, ℕ, false, List, ◌++◌, ◌∷◌, take, drop, get_or, set, insert, arith, Option, refl}
use Rattle.std.proofs.Math.Seq.{drop-append-add, take-append_seam}
use Rattle.std.proofs.lemmas.List.{length-take-le}
use Rattle.std.proofs.lemmas.List.Edits.{get_or-insert_at, length-insert}
use Rattle.std.specs.Cmp.{IsTotalOrder, tied_itself}
use Rattle.std.specs.Option.{IsSomeAnd, UnwrapsOrElse}
use Rattle.std.specs.Ordering.{eq_by_cmp}
use Rattle.std.specs.declared.cmp.Ordering.{Ordering}
use Rattle.std.specs.declared.cmp.Ordering.TheVariants.{Equal}
use Rattle.vc_merge.specs.Place.{IsFound, IsGap}
use Rattle.vc_joins.specs.Entries.{AscendsByKey, entry_at, value_at}
use Rattle.vc_joins.proofs.Functions.{value-entry}
use Rattle.vc_maps.specs.Updating.{IsBound}
use Rattle.vc_maps.proofs.Editing.{found-entry, gap-changed, gap-entry}
use Rattle.vc_maps.proofs.Upserted.{place-written}

-- an element that was put into its gap
in-gap : {X : Type 0} (side : X → Ordering) (xs : List X) (i : ℕ) (x : X) → IsGap side xs i → side x ≡ Equal
    → IsFound side (insert xs i x) i
in-gap side xs i x gap equal =
    let n = length-take-le i xs gap.within in
    record {
      within = grind (arith, length-insert xs i x, gap.within);
      equal = λ d. rw (get_or-insert_at xs i x d gap.within) equal;
      less = rw (rw n at (take-append_seam (take i xs) (x ∷ drop i xs))) gap.less;
      greater = rw (rw n at (drop-append-add (take i xs) (x ∷ drop i xs) 1)) gap.greater;
    }

module _ {K V : Type 0} {cmp : K → K → Ordering} (total : IsTotalOrder cmp) (made : V → Type 0) (es : List (K × V))
    (key : K) where
  -- the pair at the key is that of old, or one of the key with what was made
  abbrev Holds : Option (K × V) → Type 0
  Holds new = IsSomeAnd new (UnwrapsOrElse (entry_at cmp es key) (λ p. (p.0 ≡ key) × made p.1))

  pub record IsPut (new : List (K × V)) (i : ℕ) : Type 0 where
    pub found : IsFound (λ p. cmp p.0 key) new i
    pub ascends : AscendsByKey cmp new
    pub entry : Holds (entry_at cmp new key)
    pub others : (k : K) → eq_by_cmp cmp k key ≡ false → entry_at cmp new k ≡ entry_at cmp es k

  -- the key is new
  pub put-new : {slice mid new : List (K × V)} {i : ℕ} (v : V) → slice ≡ es → IsGap (λ p. cmp p.0 key) slice i
      → AscendsByKey cmp es → made v → mid ≡ es → new ≡ take i mid ++ (key, v) ∷ drop i mid → IsPut new i
  put-new {slice} {mid} {new} {i} v e g p did m n =
      let gap = rw e at g in
      let put : new ≡ take i es ++ (key, v) ∷ drop i es = rw m at n in
      let h = gap-changed total refl e g p v put in record {
        found = rw put (in-gap (λ p. cmp p.0 key) es i (key, v) gap (tied_itself total key));
        ascends = h.ascends;
        entry = grind (arith, h.entries key, tied_itself total key, gap-entry total gap);
        others = λ k e. grind (arith, h.entries k);
      }

  -- ---- what the loan of the value at the key shows, and what is written through it

  module _ {mid : List (K × V)} {i : ℕ} {x : K × V} (found : IsFound (λ p. cmp p.0 key) mid i) (is : x ≡ get_or mid i x)
      (ascends : AscendsByKey cmp mid) (holds : Holds (entry_at cmp mid key)) where
    pub lent-value : UnwrapsOrElse (value_at cmp es key) made x.1
    lent-value = grind (arith, found-entry total found x, value-entry cmp es key)

    pub bound : ((k : K) → eq_by_cmp cmp k key ≡ false → entry_at cmp mid k ≡ entry_at cmp es k)
        → (w : V) → IsBound cmp es key w (set mid i (x.0, w))
    bound others w =
        let h = place-written total found is ascends w in record {
          entries = λ k. grind (arith, h.entries k, found-entry total found x, others k);
          values = λ k. grind (arith, h.values k, value-entry cmp mid k, value-entry cmp es k, others k);
        }
