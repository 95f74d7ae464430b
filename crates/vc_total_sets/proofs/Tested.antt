-- What a test of two lists says of two total sets with these lists.
use Rattle.std.proofs.Common.{◌≡◌, ◌↔◌, Bool, true, false, List, IsTrue, refl, sym, ap, subst, ◌∙◌}
use Rattle.std.specs.declared.cmp.Ordering.{Ordering}
use Rattle.vc_merge.specs.Ascending.{member}
use Rattle.vc_sets.specs.Tests.{IsDisjoint, IsSubset}
use Rattle.vc_total_sets.specs.TotalSet.{TotalSet, total}
use Rattle.vc_total_sets.specs.TotalTests.{IsTotalSubset, IsTotalDisjoint}
use Rattle.vc_total_sets.proofs.Formulas.{not_true, not-so, so-not, so-if_not_not}

module _ {X : Type 0} where
  -- a test of the lists is one of the sets that are seen with these lists and flags
  pub seen-so : (Test : TotalSet X → TotalSet X → Type 0) {P : Type 0} {answer : Bool} {xs ys : List X} {p q r s : Bool}
      {a b : TotalSet X}
      → total xs p ≡ a → total ys q ≡ b → p ≡ r → q ≡ s → IsTrue answer ↔ P → P ↔ Test (total xs r) (total ys s)
      → IsTrue answer ↔ Test a b
  seen-so Test {answer} {xs} {ys} {p} {q} {r} {s} {a} {b} is_a is_b is_r is_s here there =
      let into_a : total xs r ≡ a = ap (λ flag. total xs flag) (sym is_r) ∙ is_a in
      let into_b : total ys s ≡ b = ap (λ flag. total ys flag) (sym is_s) ∙ is_b in
      let both : IsTrue answer ↔ Test (total xs r) (total ys s) = (λ h. there.0 (here.0 h), λ t. here.1 (there.1 t)) in
      subst (λ t. IsTrue answer ↔ Test t b) into_a (subst (λ u. IsTrue answer ↔ Test (total xs r) u) into_b both)

module _ {X : Type 0} (cmp : X → X → Ordering) (xs ys : List X) where
  -- ---- subsets

  pub subset-plain : IsSubset cmp xs ys ↔ IsTotalSubset cmp (total xs false) (total ys false)
  subset-plain = (λ h. record { at = h; elsewhere = λ e. e }, λ h. h.at)

  pub subset-into_negated : IsDisjoint cmp xs ys ↔ IsTotalSubset cmp (total xs false) (total ys true)
  subset-into_negated = (
    (λ h. record { at = λ x p. not-so (member cmp ys x) (h x p); elsewhere = λ e. refl }),
    λ h x p. so-not (member cmp ys x) (h.at x p),
  )

  pub subset-negated : IsSubset cmp ys xs ↔ IsTotalSubset cmp (total xs true) (total ys true)
  subset-negated = (
    (λ h. record { at = λ x p. not-so (member cmp ys x) (λ q. so-not (member cmp xs x) p (h x q)); elsewhere = λ e. e }),
    λ h x q. so-if_not_not (member cmp xs x) (λ n. so-not (member cmp ys x) (h.at x n) q),
  )

  -- ---- disjoint sets

  pub disjoint-plain : IsDisjoint cmp xs ys ↔ IsTotalDisjoint cmp (total xs false) (total ys false)
  disjoint-plain = (λ h. record { at = h; elsewhere = λ e k. not_true e }, λ h. h.at)

  pub disjoint-from_negated : IsSubset cmp xs ys ↔ IsTotalDisjoint cmp (total xs false) (total ys true)
  disjoint-from_negated = (
    (λ h. record { at = λ x p n. so-not (member cmp ys x) n (h x p); elsewhere = λ e k. not_true e }),
    λ h x p. so-if_not_not (member cmp ys x) (h.at x p),
  )

  pub disjoint-negated_from : IsSubset cmp ys xs ↔ IsTotalDisjoint cmp (total xs true) (total ys false)
  disjoint-negated_from = (
    (λ h. record { at = λ x n q. so-not (member cmp xs x) n (h x q); elsewhere = λ e k. not_true k }),
    λ h x q. so-if_not_not (member cmp xs x) (λ n. h.at x n q),
  )
