-- Clones of the elements of a set, where clones are equal to their sources.
use Rattle.std.proofs.Common.{◌≡◌, Bool, List, [], ◌∷◌, Option, Some, None}
use Rattle.std.proofs.Common.{arith}
use Rattle.std.specs.List.{AllZip}
use Rattle.std.specs.Cmp.{IsTotalOrder}
use Rattle.std.specs.declared.cmp.Ordering.{Ordering}
use Rattle.std.specs.declared.cmp.Ordering.TheVariants.{Equal}
use Rattle.vc_merge.specs.Ascending.{element_at}
use Rattle.vc_merge.proofs.Members.{member-is_some}
use Rattle.vc_sets.specs.SetOf.{IsSetOf}

module _ {X : Type 0} (cmp : X → X → Ordering) (total : IsTotalOrder cmp) (is_clone : X → X → Type 0)
    (equal : (x y : X) → is_clone x y → cmp x y ≡ Equal) where
  -- ---- where an element stands, its clone stands in the clones

  IsClonedAt : Option X → Option X → Type 0
  IsClonedAt None None = Unit {0}
  IsClonedAt None (Some z) = ⊥
  IsClonedAt (Some y) None = ⊥
  IsClonedAt (Some y) (Some z) = is_clone y z

  cloned-at : (xs ys : List X) (x : X) → AllZip is_clone xs ys → IsClonedAt (element_at cmp xs x) (element_at cmp ys x)
  unfolding IsClonedAt
  cloned-at [] [] x h = tt
  cloned-at (y ∷ xs) (z ∷ ys) x h = grind (arith, cloned-at xs ys x h.1)
  cloned-at y u x h = absurd h

  -- an operation that moves the clones makes what it makes of their sources by clones
  pub set_of-clones : (f : Bool → Bool → Bool) (L : X → X → Type 0) (a b clones c : List X) → AllZip is_clone b clones
      → IsSetOf cmp L (λ y z. y ≡ z) f a clones c → IsSetOf cmp L is_clone f a b c
  unfolding IsClonedAt
  set_of-clones f L a b clones c h s = record {
    ascends = s.ascends;
    members = λ x. grind (arith, s.members x, member-is_some, cloned-at b clones x h);
    kept = λ x. grind (arith, s.kept x, cloned-at b clones x h);
  }
