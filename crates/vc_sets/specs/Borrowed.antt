-- Look-ups by a borrowed form, where `side` says how an element compares with it: `Less` before it,
-- `Equal` at it, `Greater` after it.
use Rattle.std.specs.Prelude.{◌≡◌, Bool, List, Option, Some, None, refl}
use Rattle.std.proofs.Common.{sym, ap, ◌∙◌}
use mathlib.Core.Bool.{true≢false}
use Rattle.std.specs.List.{find, list_any}
use Rattle.std.specs.Cmp.{IsTotalOrder, alike_right}
use Rattle.std.specs.Option.{option_cmp}
use Rattle.std.specs.Ordering.{is_eq, is_gt, is_lt, ordering_reverse}
use Rattle.std.specs.declared.cmp.Ordering.{Ordering}
use Rattle.std.specs.declared.cmp.Ordering.TheVariants.{Less, Equal, Greater}

module _ {X : Type 0} (side : X → Ordering) where
  -- some element is equal to the form
  abbrev pub member_by : List X → Bool
  member_by xs = list_any (λ y. is_eq (side y)) xs

  -- the first element that is equal to the form: in an ascending list, the only one
  abbrev pub element_by : List X → Option X
  element_by xs = find (λ y. is_eq (side y)) xs

-- ---- the laws of a form, where elements are ordered by the forms that they lend

module _ {X F : Type 0} {order : F → F → Ordering} (total : IsTotalOrder order) {cmp : X → X → Ordering} (lent : X → F)
    (same : (x y : X) → cmp x y ≡ order (lent x) (lent y)) where
  -- an element that lends an equal form orders all elements as the form does
  pub equal_by_form : (q : F) (x y : X) → order (lent x) q ≡ Equal → order (lent y) q ≡ cmp y x
  equal_by_form q x y e = sym (alike_right total (lent x) q (lent y) e) ∙ sym (same y x)

  -- each element after one that is after the form is after the form too
  pub behind_by_form : (q : F) (x y : X) → order (lent x) q ≡ Greater → cmp x y ≡ Less → order (lent y) q ≡ Greater
  behind_by_form q x y e l = total.antisymm (lent y) q ∙ ap ordering_reverse
      (total.trans q (lent x) (lent y) (total.antisymm q (lent x) ∙ ap ordering_reverse e) (sym (same x y) ∙ l))

-- ---- forms of elements that may be missing, which then come first

module _ {X Q : Type 0} (side : Q → X → Ordering) where
  -- how an element that may be missing compares with a form that may be
  abbrev pub option_side : Option Q → Option X → Ordering
  option_side None None = Equal
  option_side None (Some y) = Greater
  option_side (Some q) None = Less
  option_side (Some q) (Some y) = side q y

  module _ (cmp : X → X → Ordering) where
    pub equal_by_option : ((q : Q) (x y : X) → side q x ≡ Equal → side q y ≡ cmp y x) → (q : Option Q) (x y : Option X)
        → option_side q x ≡ Equal → option_side q y ≡ option_cmp cmp y x
    equal_by_option law None None None e = refl
    equal_by_option law None None (Some y) e = refl
    equal_by_option law None (Some x) y e = absurd (true≢false (sym (ap is_eq e)))
    equal_by_option law (Some q) None y e = absurd (true≢false (sym (ap is_eq e)))
    equal_by_option law (Some q) (Some x) None e = refl
    equal_by_option law (Some q) (Some x) (Some y) e = law q x y e

    pub behind_by_option : ((q : Q) (x y : X) → side q x ≡ Greater → cmp x y ≡ Less → side q y ≡ Greater)
        → (q : Option Q) (x y : Option X) → option_side q x ≡ Greater → option_cmp cmp x y ≡ Less
        → option_side q y ≡ Greater
    behind_by_option law None None y e l = absurd (true≢false (ap is_eq e))
    behind_by_option law None (Some x) None e l = absurd (true≢false (ap is_gt l))
    behind_by_option law None (Some x) (Some y) e l = refl
    behind_by_option law (Some q) None y e l = absurd (true≢false (ap is_lt e))
    behind_by_option law (Some q) (Some x) None e l = absurd (true≢false (ap is_gt l))
    behind_by_option law (Some q) (Some x) (Some y) e l = law q x y e l
