-- What is left of a list that was sifted, by the name of its operation.
use Rattle.std.proofs.Common.{◌≡◌, ℕ, Bool, true, false, not, ◌&&◌, List, length, take, arith}
use Rattle.smallvec.specs.SmallVec.{SmallVec, with_items}
use Rattle.smallvec.proofs.SmallVecLemmas.{items-with_items}
use Rattle.std.specs.declared.cmp.Ordering.{Ordering}
use Rattle.vc_sets.specs.SetOf.{IsSetOf, and_not}
use Rattle.vc_sets.specs.Select.{keeps}

-- `keeps` of an intersection, and of a difference
pub keeps-and : (x y : Bool) → keeps (not true) false true x y ≡ (x && y)
keeps-and x y = grind arith

pub keeps-and_not : (x y : Bool) → keeps (not false) false false x y ≡ and_not x y
keeps-and_not x y = grind arith

-- `L` and `R` relate what is kept to the left and to the right element that it is kept of
module _ {X : Type 0} (cmp : X → X → Ordering) (L R : X → X → Type 0) (f g : Bool → Bool → Bool)
    (same : (x y : Bool) → f x y ≡ g x y) where
  -- operations that say the same
  set_of-same : (a b c : List X) → IsSetOf cmp L R f a b c → IsSetOf cmp L R g a b c
  set_of-same a b c s = grind arith

  -- the list was written through its slice, and cut off behind what was kept
  pub sifted : (v : SmallVec X) {view those that lent : List X} (written : List X) {new : List X} (kept : ℕ)
      → v.items ≡ view → lent ≡ v.items → those ≡ that → length written ≡ length lent
      → new ≡ take kept (with_items v written).items → IsSetOf cmp L R f lent those (take kept written)
      → IsSetOf cmp L R g view that new
  sifted v {view} {those} {that} {lent} written {new} kept a b c l e s =
      set_of-same view that new (grind (arith, items-with_items))
