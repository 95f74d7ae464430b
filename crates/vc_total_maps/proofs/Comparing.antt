-- Comparisons of total maps.
use Rattle.std.proofs.Common.{◌≡◌, List, Option, Some, refl, sym}
use Rattle.std.specs.Cmp.{Agrees, then_agrees}
use Rattle.std.specs.Cmp.Lexicographic.{slice_cmp, slice_partial_cmp, lists_agrees}
use Rattle.std.specs.Ordering.{ordering_then, partial_ordering_then}
use Rattle.std.specs.declared.cmp.Ordering.{Ordering}
use Rattle.std.specs.declared.cmp.Ordering.TheVariants.{Equal}

-- where the first comparison settles it, the second is not asked
pub then-other : (o p : Ordering) → (o ≡ Equal → ⊥) → o ≡ ordering_then o p
then-other Equal p not = absurd (not refl)
then-other x p not = refl

pub then-equal : (o p r : Ordering) → o ≡ Equal → r ≡ p → r ≡ ordering_then o p
then-equal o p r e h = rw e h

pub pairs-agree : {K V : Type 0} {C : K → K → Option Ordering} {R : K → K → Ordering} {D : V → V → Option Ordering}
    {S : V → V → Ordering} → Agrees C R → Agrees D S → (xs ys : List (K × V)) (d e : V)
    → Some (ordering_then (slice_cmp (λ p q. ordering_then (R p.0 q.0) (S p.1 q.1)) xs ys) (S d e))
    ≡ partial_ordering_then (slice_partial_cmp (λ p q. partial_ordering_then (C p.0 q.0) (D p.1 q.1)) xs ys) (D d e)
pairs-agree {K} {V} keys values xs ys d e =
    sym (then_agrees {K = List (K × V) × V}
    (λ a b. lists_agrees (then_agrees {K = K × V} (λ p q. keys p.0 q.0) (λ p q. values p.1 q.1)) a.0 b.0)
    (λ a b. values a.1 b.1) (xs, d) (ys, e))
