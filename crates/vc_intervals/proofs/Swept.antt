-- Ranges that are added in the order of their starts.
--     swept-pushed, swept-met        the boundaries with one range more, which is apart from the last one or meets it
--     pushed-holds, met-holds        what they have
use Rattle.std.proofs.Common.{◌≡◌, ◌-◌, Bool, true, false, not, ◌&&◌, ◌||◌, List, [], ◌∷◌, ◌++◌}
use Rattle.std.proofs.Common.{length, take, Some, refl, ap, append_assoc, length-append, arith}
use native.Mathlib.Numerals.{unary_clauses}
use Rattle.std.proofs.Math.Seq.{take-append_seam}
use Rattle.std.specs.Cmp.{IsTotalOrder}
use Rattle.std.specs.List.{AllByRecursion, slice_get}
use Rattle.std.specs.List.Sorted.{IsStrictlySortedBy}
use Rattle.std.specs.Ordering.{is_le, is_lt, ord_max}
use Rattle.std.specs.declared.cmp.Ordering.{Ordering}
use Rattle.std.specs.declared.cmp.Ordering.TheVariants.{Less}
use Rattle.std.specs.declared.ops.Range.{Range}
use Rattle.vc_merge.specs.Ascending.{Ascends}
use Rattle.vc_merge.proofs.ListLemmas.{each-weaker}
use Rattle.vc_intervals.specs.Boundaries.{toggled}
use Rattle.vc_intervals.specs.Ranges.{IsSwept}
use Rattle.vc_intervals.proofs.Ranged.{each-later, pair-contains}
use Rattle.vc_intervals.proofs.Toggled.{toggled-all, toggled-append, toggled-not}

module _ {X : Type 0} where
  each-append : (P : X → Type 0) (xs ys : List X) → AllByRecursion P xs → AllByRecursion P ys → AllByRecursion P (xs ++ ys)
  each-append P [] ys p q = q
  each-append P (x ∷ xs) ys p q = (p.0, each-append P xs ys p.1 q)

  each-parts : (P : X → Type 0) (xs ys : List X) → AllByRecursion P (xs ++ ys) → AllByRecursion P xs × AllByRecursion P ys
  each-parts P [] ys p = (tt, p)
  each-parts P (x ∷ xs) ys p = let r = each-parts P xs ys p.1 in ((p.0, r.0), r.1)

  -- all but the last of a list with one more
  but_last : (xs : List X) (y : X) → take (length (xs ++ y ∷ []) - 1) (xs ++ y ∷ []) ≡ xs
  but_last xs y = grind (arith, length-append xs (y ∷ []), take-append_seam xs (y ∷ []))

module _ {X : Type 0} (cmp : X → X → Ordering) (total : IsTotalOrder cmp) where
  -- ---- a range apart from the last interval

  ascends-pushed : (ts : List X) (s : X) → Ascends cmp ts → AllByRecursion (λ t. cmp t s ≡ Less) ts → Ascends cmp (ts ++ s ∷ [])
  unfolding IsStrictlySortedBy
  ascends-pushed [] s p q = (tt, tt)
  ascends-pushed (t ∷ ts) s p q = grind (arith, ascends-pushed ts s p.1 q.1, each-append)

  -- ascending elements before the last one ascend, and are less than it
  ascends-last : (ts : List X) (l : X) → Ascends cmp (ts ++ l ∷ []) → Ascends cmp ts × AllByRecursion (λ t. cmp t l ≡ Less) ts
  unfolding IsStrictlySortedBy
  ascends-last [] l p = (tt, tt)
  ascends-last (t ∷ ts) l p = grind (arith, ascends-last ts l p.1, each-parts (λ z. cmp t z ≡ Less) ts (l ∷ []) p.0)

  -- all boundaries are less than a start, where the last one is
  pub below-start : (ts : List X) (s : X) → Ascends cmp ts
      → ((last : X) → slice_get ts (length ts - 1) ≡ Some last → is_lt (cmp last s) ≡ true) → AllByRecursion (λ t. cmp t s ≡ Less) ts
  unfolding IsStrictlySortedBy
  below-start [] s p q = tt
  below-start (t ∷ []) s p q = grind (arith, q t refl)
  below-start (t ∷ u ∷ ts) s p q = grind (arith, below-start (u ∷ ts) s p.1 (λ l h. q l (simp unary_clauses (simp unary_clauses at h))))

  pub swept-pushed : (ts us : List X) (s e : X) → IsSwept cmp s ts → cmp s e ≡ Less → AllByRecursion (λ t. cmp t s ≡ Less) ts
      → us ≡ (ts ++ s ∷ []) ++ e ∷ [] → IsSwept cmp s us
  swept-pushed ts us s e p l q is = rw is (record {
    ascends = ascends-pushed _ e (ascends-pushed ts s p.ascends q)
        (each-append _ ts (s ∷ []) (each-weaker _ (λ t. cmp t e ≡ Less) (λ t h. total.trans t s e h l) ts q) (l, tt));
    even = grind (arith, length-append, p.even);
    before = rw but_last (each-append _ ts (s ∷ []) (each-weaker _ (λ t. is_le (cmp t s) ≡ true) (λ t h. ap is_le h) ts q) (grind arith, tt));
  })

  pub pushed-holds : (ts us : List X) (s e x : X) → IsSwept cmp s ts → cmp s e ≡ Less → AllByRecursion (λ t. cmp t s ≡ Less) ts
      → us ≡ (ts ++ s ∷ []) ++ e ∷ []
      → toggled cmp false us x ≡ ((is_le (cmp s x) && not (is_le (cmp e x))) || toggled cmp false ts x)
  pushed-holds ts us s e x p l q is =
      grind (arith, append_assoc, toggled-append, pair-contains, toggled-not, toggled-all, each-later, each-weaker)

  -- ---- a range that meets the last interval

  pub swept-met : (ts us : List X) (l s e : X) → IsSwept cmp s (ts ++ l ∷ []) → us ≡ ts ++ ord_max cmp l e ∷ [] → IsSwept cmp s us
  swept-met ts us l s e p is =
      grind (arith, ascends-pushed, ascends-last ts l p.ascends, each-weaker, length-append, but_last)

  pub met-holds : (ts us : List X) (l s e x : X) → IsSwept cmp s (ts ++ l ∷ []) → is_lt (cmp l s) ≡ false → cmp s e ≡ Less
      → us ≡ ts ++ ord_max cmp l e ∷ []
      → toggled cmp false us x ≡ ((is_le (cmp s x) && not (is_le (cmp e x))) || toggled cmp false (ts ++ l ∷ []) x)
  met-holds ts us l s e x p h k is =
      grind (arith, length-append, but_last, toggled-append, toggled-not, toggled-all, each-later)

  -- ---- ranges that start later

  pub all-swept : (s : X) (ts : List X) (rs : List (Range X)) → IsSwept cmp s ts
      → AllByRecursion (λ q. is_le (cmp s q.start) ≡ true) rs → AllByRecursion (λ q. IsSwept cmp q.start ts) rs
  all-swept s ts rs p a = each-weaker _ (λ q. IsSwept cmp q.start ts) (λ q k. grind (arith, each-later)) rs a

  pub none-swept : (ts : List X) (rs : List (Range X)) → ts ≡ [] → AllByRecursion (λ q. IsSwept cmp q.start ts) rs
  unfolding IsStrictlySortedBy
  none-swept ts [] e = tt
  none-swept ts (r ∷ rs) e = grind (arith, none-swept ts rs e)

-- a range goes from those that are left over to those that were added
pub moved-over : (p q r t u : Bool) → u ≡ (p || t) → ((p || q) || t) ≡ r → (q || u) ≡ r
moved-over p q r t u e h = grind arith
