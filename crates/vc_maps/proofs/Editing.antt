-- What is at a key of a list of pairs that was searched, and that list with a pair put in.
use Rattle.std.proofs.Common.{◌≡◌, ℕ, cond, List, ◌∷◌, ◌++◌, take, drop, get_or, set, Some, None}
use Rattle.std.proofs.Common.{Result, is_ok, is_some, arith, ap}
use Rattle.std.proofs.lemmas.Cmp.{on_total}
use Rattle.std.specs.Cmp.{IsTotalOrder, alike_right, eq_by_cmp_equiv, tied_itself}
use Rattle.std.specs.Map.{lookup}
use Rattle.std.specs.Ordering.{eq_by_cmp}
use Rattle.std.specs.declared.cmp.Ordering.{Ordering}
use Rattle.std.specs.declared.cmp.Ordering.TheVariants.{Equal}
use Rattle.vc_merge.specs.Ascending.{Ascends, element_at}
use Rattle.vc_merge.specs.Place.{IsFound, IsGap, IsPlace}
use Rattle.vc_merge.specs.Yielded.{by_first, keys-ascend}
use Rattle.vc_merge.proofs.ListLemmas.{pairs-ascend}
use Rattle.vc_joins.specs.Entries.{AscendsByKey, entry_at, value_at}
use Rattle.vc_joins.proofs.Functions.{value-entry}
use Rattle.vc_sets.proofs.Editing.{ascends-insert, ascends-set, element_at-insert, element_at-set}
use Rattle.vc_sets.proofs.Searching.{found-element, gap-element}
use Rattle.vc_maps.specs.Borrowed.{value_by}
use Rattle.vc_maps.proofs.ByForm.{entry-element, found-value_by, gap-value_by, place-has_value_by}

module _ {K V : Type 0} {cmp : K → K → Ordering} (total : IsTotalOrder cmp) where
  -- ---- what a search tells

  value-sought : (es : List (K × V)) (key : K) → value_at cmp es key ≡ value_by (λ k. cmp k key) es
  value-sought es key = ap (λ test. lookup test es) (λ i k. (eq_by_cmp_equiv total).symm key k i)

  pub found-value : {es : List (K × V)} {key : K} {i : ℕ} → IsFound (λ p. cmp p.0 key) es i → (d : K × V)
      → value_at cmp es key ≡ Some (get_or es i d).1
  found-value {es} {key} f d = rw (value-sought es key) (found-value_by (λ k. cmp k key) f d)

  pub gap-value : {es : List (K × V)} {key : K} {i : ℕ} → IsGap (λ p. cmp p.0 key) es i → value_at cmp es key ≡ None
  gap-value {es} {key} g = rw (value-sought es key) (gap-value_by (λ k. cmp k key) g)

  -- a place is found where there is a value
  pub place-has_value : (es : List (K × V)) (key : K) (r : Result ℕ ℕ) → IsPlace (λ p. cmp p.0 key) es r
      → is_ok r ≡ is_some (value_at cmp es key)
  place-has_value es key r p = rw (value-sought es key) (place-has_value_by (λ k. cmp k key) es r p)

  pub found-entry : {es : List (K × V)} {key : K} {i : ℕ} → IsFound (λ p. cmp p.0 key) es i → (d : K × V)
      → entry_at cmp es key ≡ Some (get_or es i d)
  found-entry {es} {key} {i} f d = rw (entry-element total es key) (found-element (λ p. cmp p.0 key) es i d f)

  pub gap-entry : {es : List (K × V)} {key : K} {i : ℕ} → IsGap (λ p. cmp p.0 key) es i → entry_at cmp es key ≡ None
  gap-entry {es} {key} {i} g = rw (entry-element total es key) (gap-element (λ p. cmp p.0 key) es i g)

  -- ---- a pair put in

  -- what a list is once `now` stands at a key
  pub record IsChanged (es : List (K × V)) (key : K) (now : K × V) (new : List (K × V)) : Type 0 where
    pub ascends : AscendsByKey cmp new
    pub entries : (k : K) → entry_at cmp new k ≡ cond (eq_by_cmp cmp k key) (Some now) (entry_at cmp es k)
    pub values : (k : K) → value_at cmp new k ≡ cond (eq_by_cmp cmp k key) (Some now.1) (value_at cmp es k)

  changed : {es new : List (K × V)} {key : K} (now : K × V) → cmp now.0 key ≡ Equal → Ascends (by_first cmp) new
      → ((p : K × V) → element_at (by_first cmp) new p
      ≡ cond (eq_by_cmp cmp now.0 p.0) (Some now) (element_at (by_first cmp) es p))
      → IsChanged es key now new
  changed {es} {new} {key} now at p h =
      let entries : (k : K) → entry_at cmp new k ≡ cond (eq_by_cmp cmp k key) (Some now) (entry_at cmp es k) =
      λ k. let alike = alike_right total now.0 key k at in let same = (eq_by_cmp_equiv total).symm now.0 k in
      grind (arith, h (k, now.1), entry-element total new k, entry-element total es k, alike, same) in
      record {
        ascends = keys-ascend cmp new p;
        entries = entries;
        values = λ k. grind (arith, value-entry cmp new k, value-entry cmp es k, entries k);
      }

  -- in the place of the pair with an equal key
  pub found-changed : {es old slice new : List (K × V)} {key : K} {i : ℕ} → es ≡ old → slice ≡ es
      → IsFound (λ p. cmp p.0 key) slice i → AscendsByKey cmp es → (now : K × V) → cmp now.0 key ≡ Equal
      → new ≡ set es i now → IsChanged old key now new
  found-changed {es} {old} {slice} {new} {key} {i} same e f p now at n =
      let found = rw e at f in
      let stands : (d : K × V) → cmp (get_or es i d).0 now.0 ≡ Equal =
      λ d. grind (arith, found.equal d, alike_right total now.0 key (get_or es i d).0 at) in
      let pairs = pairs-ascend cmp es p in let order = on_total (λ (p : K × V). p.0) total in
      rw (n, ← same) (changed now at (ascends-set (by_first cmp) order es now i (found.within, stands) pairs)
      (element_at-set (by_first cmp) order es now i (found.within, stands) pairs))

  -- between the pairs with lesser keys and those with greater ones
  pub gap-changed : {es old slice new : List (K × V)} {key : K} {i : ℕ} → es ≡ old → slice ≡ es
      → IsGap (λ p. cmp p.0 key) slice i → AscendsByKey cmp es → (v : V) → new ≡ take i es ++ (key, v) ∷ drop i es
      → IsChanged old key (key, v) new
  gap-changed {es} {old} {slice} {new} {key} {i} same e g p v n =
      let gap = rw e at g in let order = on_total (λ (p : K × V). p.0) total in
      rw (← same) (changed (key, v) (tied_itself total key)
      (ascends-insert (by_first cmp) order es new (key, v) i gap (pairs-ascend cmp es p) n)
      (element_at-insert (by_first cmp) order es new (key, v) i gap n))
