-- What is in a range, by the boundaries at its ends, and what is at or below a later place.
use Rattle.std.proofs.Common.{◌≡◌, Bool, true, false, List, [], ◌∷◌, arith}
use Rattle.std.specs.BTreeMap.Range.{range_contains}
use Rattle.std.specs.Cmp.{IsTotalOrder}
use Rattle.std.specs.List.{AllByRecursion}
use Rattle.std.specs.Ordering.{is_le, is_lt}
use Rattle.std.specs.declared.cmp.Ordering.{Ordering}
use Rattle.std.specs.declared.cmp.Ordering.TheVariants.{Less}
use Rattle.std.specs.declared.ops.Bound.TheVariants.{Included, Excluded}
use Rattle.vc_merge.proofs.ListLemmas.{each-weaker}
use Rattle.vc_intervals.specs.Boundaries.{toggled}

-- as a call asks
pub less-told : {o p : Ordering} {b : Bool} → p ≡ o → b ≡ is_lt p → b ≡ true → o ≡ Less
less-told e h k = grind arith

module _ {X : Type 0} (cmp : X → X → Ordering) (total : IsTotalOrder cmp) where
  -- what is at or below a place is at or below a later one
  pub each-later : (ts : List X) (s x : X) → is_le (cmp s x) ≡ true → AllByRecursion (λ t. is_le (cmp t s) ≡ true) ts
      → AllByRecursion (λ t. is_le (cmp t x) ≡ true) ts
  each-later ts s x e p = each-weaker _ (λ t. is_le (cmp t x) ≡ true) (λ t k. grind arith) ts p

  -- two boundaries, the one below the other, have what is in the range between them
  pub pair-contains : (s e x : X) → cmp s e ≡ Less
      → toggled cmp false (s ∷ e ∷ []) x ≡ range_contains cmp (Included s) (Excluded e) x
  pair-contains s e x l = grind arith
