-- Ranges that a sort has put in the order of their starts.
use Rattle.std.proofs.Common.{◌≡◌, zero, suc, true, List, [], ◌∷◌}
use Rattle.std.proofs.Common.{arith}
use native.Mathlib.Numerals.{unary_clauses}
use Rattle.std.specs.Cmp.{IsTotalOrder, IsStrictWeakOrder}
use Rattle.std.specs.List.Sorted.{IsSortedByKey}
use Rattle.std.specs.Ordering.{is_le, is_lt}
use Rattle.std.specs.declared.cmp.Ordering.{Ordering}
use Rattle.std.specs.declared.ops.Range.{Range}
use Rattle.vc_merge.proofs.ListLemmas.{each-weaker}
use Rattle.vc_intervals.specs.Ranges.{StartsAscend}

module _ {X : Type 0} (cmp : X → X → Ordering) (total : IsTotalOrder cmp) where
  pub weak-by : {R : Type 0} (key : R → X) → IsStrictWeakOrder (λ a b. is_lt (cmp (key a) (key b)))
  weak-by key = grind arith

  pub starts-sorted : (rs : List (Range X)) → IsSortedByKey (λ range. range.start) cmp rs → StartsAscend cmp rs
  starts-sorted [] h = tt
  starts-sorted (r ∷ []) h = (tt, tt)
  starts-sorted (r ∷ q ∷ rs) h =
      let rest = starts-sorted (q ∷ rs) (λ k d z l. simp unary_clauses (simp unary_clauses at (h (suc k) d (omega arith) (omega arith)))) in
      let here : is_le (cmp r.start q.start) ≡ true = grind (arith, h zero r (omega arith) (omega arith)) in
      ((here, each-weaker _ (λ p. is_le (cmp r.start p.start) ≡ true) (λ p k. grind arith) rs rest.0), rest)
