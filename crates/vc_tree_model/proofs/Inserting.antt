-- Two keys that differ may be bound in either order.
--     inserts-commute        the law of insertions
use Rattle.std.proofs.Common.{◌≡◌, List, Option, Bool, true, false, true≢false, refl, sym, ◌∙◌, arith}
use Rattle.std.specs.declared.cmp.Ordering.{Ordering}
use Rattle.std.specs.Cmp.{IsTotalOrder}
use Rattle.vc_tree_model.specs.Key.{same_key}
use Rattle.vc_tree_model.specs.Value.{IsKept}
use Rattle.vc_tree_model.specs.Map.{IsUpdated}
use Rattle.vc_tree_model.specs.PrefixLaws.{InsertsCommute}
use Rattle.vc_tree_model.proofs.KeyLemmas.{same-flip, same-trans}

module _ {V : Type 0} where
  -- what is equal is kept
  is-kept : (a b : Option V) → a ≡ b → IsKept (λ x y. x ≡ y) a b
  is-kept a b e = grind arith

module _ {K V : Type 0} (cmp : K → K → Ordering) (o : IsTotalOrder cmp) where
  -- a key that differs from the one that is bound last keeps what it had
  stays : (k l : List K) (w : V) (f g : List K → Option V) → IsUpdated cmp (λ x y. x ≡ y) k w f g
      → same_key cmp k l ≡ false → g l ≡ f l
  stays k l w f g h e = grind arith

  pub inserts-commute : InsertsCommute K V cmp
  inserts-commute j k v w m left both right both' apart a b c d l =
      is-kept (both l) (both' l) (by (same_key cmp j l) (same_key cmp k l) refl refl)
    where
      by : (s t : Bool) → same_key cmp j l ≡ s → same_key cmp k l ≡ t → both l ≡ both' l
      by true true p q =
          absurd (true≢false (sym (same-trans cmp o j l k p (same-flip cmp o l k ∙ q)) ∙ apart))
      by true false p q = stays k l w left both b q ∙ a.at l p ∙ sym (d.at l p)
      by false true p q = b.at l q ∙ sym (stays j l v right both' d p ∙ c.at l q)
      by false false p q =
          stays k l w left both b q ∙ stays j l v m left a p
          ∙ sym (stays j l v right both' d p ∙ stays k l w m right c q)
