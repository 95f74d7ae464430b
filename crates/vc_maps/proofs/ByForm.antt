-- What a look-up of a key by a borrowed form finds. `side` says how a key compares with the form.
--     found-value_by, gap-value_by, place-has_value_by        what a place tells
--     entry-element        the pair at a key, as the first one whose key is equal
--     value-equal, pairs-ordered        by the laws of a form
--     found-taken_by, gap-taken_by        a pair removed
use Rattle.std.proofs.Common.{◌≡◌, ℕ, suc, cond, List, [], ◌∷◌, ◌++◌, take, drop, get_or, Some, None, is_some}
use Rattle.std.proofs.Common.{Result, Ok, Err, is_ok, refl, ap, ◌∙◌, arith}
use Rattle.std.proofs.lemmas.Cmp.{on_total}
use Rattle.std.specs.Cmp.{IsTotalOrder, eq_by_cmp_equiv}
use Rattle.std.specs.Map.{lookup, keys_of}
use Rattle.std.specs.Option.{option_map}
use Rattle.std.specs.Ordering.{is_eq}
use Rattle.std.specs.declared.cmp.Ordering.{Ordering}
use Rattle.std.specs.declared.cmp.Ordering.TheVariants.{Less, Equal, Greater}
use Rattle.vc_merge.specs.Ascending.{Ascends}
use Rattle.vc_merge.specs.Place.{IsFound, IsGap, IsOrdered, IsPlace}
use Rattle.vc_merge.specs.Yielded.{by_first, keys-ascend}
use Rattle.vc_merge.proofs.ListLemmas.{pairs-ascend}
use Rattle.vc_merge.proofs.Members.{equal-from_is_eq}
use Rattle.vc_joins.specs.Entries.{AscendsByKey, entry_at, value_at}
use Rattle.vc_joins.proofs.Functions.{value-entry}
use Rattle.vc_sets.specs.Borrowed.{element_by}
use Rattle.vc_sets.proofs.ByForm.{at-place, element_at-without_form, ordered, side-equal}
use Rattle.vc_sets.proofs.Removing.{ascends-without}
use Rattle.vc_sets.proofs.Searching.{equal-turned, found-element, gap-element}
use Rattle.vc_maps.specs.Borrowed.{value_by}

-- ---- what a place tells, whatever the order is

module _ {K V : Type 0} (side : K → Ordering) where
  -- the value is that of the pair whose key is equal
  value-element : (es : List (K × V)) → value_by side es ≡ option_map (λ p. p.1) (element_by (λ p. side p.0) es)
  value-element [] = refl
  value-element (e ∷ es) = grind (arith, value-element es)

  -- the value at the place
  pub found-value_by : {es : List (K × V)} {i : ℕ} → IsFound (λ p. side p.0) es i → (d : K × V)
      → value_by side es ≡ Some (get_or es i d).1
  found-value_by {es} {i} f d = grind (arith, value-element es, found-element (λ p. side p.0) es i d f)

  -- no value stands at a gap
  pub gap-value_by : {es : List (K × V)} {i : ℕ} → IsGap (λ p. side p.0) es i → value_by side es ≡ None
  gap-value_by {es} {i} g = grind (arith, value-element es, gap-element (λ p. side p.0) es i g)

  -- a place is found where there is a value
  pub place-has_value_by : (es : List (K × V)) (r : Result ℕ ℕ) → IsPlace (λ p. side p.0) es r
      → is_ok r ≡ is_some (value_by side es)
  place-has_value_by es (Ok i) f = let at = at-place es i f.within in grind (arith, found-value_by f at.0)
  place-has_value_by es (Err i) g = grind (arith, gap-value_by g)

-- the pair at a key is the first one whose key is equal
pub entry-element : {K V : Type 0} {cmp : K → K → Ordering} (total : IsTotalOrder cmp) (es : List (K × V)) (k : K)
    → entry_at cmp es k ≡ element_by (λ p. cmp p.0 k) es
entry-element total [] k = refl
entry-element {cmp = cmp} total (e ∷ es) k = grind (arith, equal-turned cmp total k e.0, entry-element total es k)

-- ---- by the laws of a form

module _ {K V : Type 0} {cmp : K → K → Ordering} {side : K → Ordering}
    (equal : (x y : K) → side x ≡ Equal → side y ≡ cmp y x) (total : IsTotalOrder cmp) where
  -- a key that is equal to the form is at the same value
  pub value-equal : (es : List (K × V)) (k : K) → side k ≡ Equal → value_by side es ≡ value_at cmp es k
  value-equal es k e = ap (λ s. value_by s es) (side-equal cmp side equal k e)
      ∙ ap (λ test. lookup test es) (λ i y. (eq_by_cmp_equiv total).symm y k i)

  -- pairs whose keys ascend are ordered round a form
  pub pairs-ordered : ((x y : K) → side x ≡ Greater → cmp x y ≡ Less → side y ≡ Greater) → (es : List (K × V))
      → Ascends cmp (keys_of es) → IsOrdered (λ (p : K × V). side p.0) es
  pairs-ordered behind es p = ordered cmp side equal total behind (λ (p : K × V). p.0) es (pairs-ascend cmp es p)

  -- ---- a pair taken out

  -- what is left once no key is equal to the form
  pub record IsTakenBy (es new : List (K × V)) : Type 0 where
    pub ascends : AscendsByKey cmp new
    pub entries : (k : K) → entry_at cmp new k ≡ cond (is_eq (side k)) None (entry_at cmp es k)
    pub values : (k : K) → value_at cmp new k ≡ cond (is_eq (side k)) None (value_at cmp es k)

  -- without the pair whose key is equal to the form
  pub found-taken_by : {es slice new : List (K × V)} {i : ℕ} → slice ≡ es → IsFound (λ (p : K × V). side p.0) slice i
      → AscendsByKey cmp es → new ≡ take i es ++ drop (suc i) es → IsTakenBy es new
  found-taken_by {es} {slice} {new} {i} e f p n =
      let found = rw e at f in
      let pairs = pairs-ascend cmp es p in
      let entries : (k : K) → entry_at cmp new k ≡ cond (is_eq (side k)) None (entry_at cmp es k) =
      λ k. rw (n, entry-element total (take i es ++ drop (suc i) es) k, entry-element total es k)
      (element_at-without_form (by_first cmp) (λ p. side p.0) (λ x y. equal x.0 y.0) (on_total (λ p. p.0) total) es i found
      pairs (k, (at-place es i found.within).0.1)) in
      record {
        ascends = rw n (keys-ascend cmp _ (ascends-without (by_first cmp) es i pairs));
        entries = entries;
        values = λ k. grind (arith, value-entry cmp new k, value-entry cmp es k, entries k);
      }

  -- where no key is equal to the form
  pub gap-taken_by : {es slice : List (K × V)} {i : ℕ} → slice ≡ es → IsGap (λ (p : K × V). side p.0) slice i
      → AscendsByKey cmp es → IsTakenBy es es
  gap-taken_by {es} {slice} {i} e g p =
      let none = gap-value_by side (rw e at g) in record {
        ascends = p;
        entries = λ k. grind (arith, none, value-equal es k, value-entry cmp es k, equal-from_is_eq (side k));
        values = λ k. grind (arith, none, value-equal es k, equal-from_is_eq (side k));
      }
