-- What is made of two sets is what was asked.
use Rattle.std.proofs.Common.{◌≡◌, sym, subst, ℕ, Bool, List, Result, Ok, Err, IfOk}
use Rattle.std.specs.Ordering.{nat_cmp}
use Rattle.vec_collections.specs.SetOf.{IsSetOf}
use Rattle.vecbench_lines.specs.Answers.{IsPicked}
use Rattle.vecbench_lines.proofs.Ascending.{test-from_Ascends}

-- the set that the library makes is the one that is picked
pub IsPicked-from_set : {E : Type 0} (copy : ℕ → ℕ → Type 0) (f g : Bool → Bool → Bool) (left right : List ℕ)
    (r : Result (List ℕ) E)
    → f ≡ g → IfOk r (IsSetOf nat_cmp copy copy g left right) → IfOk r (IsPicked f left right)
IsPicked-from_set copy f g left right (Ok picked) is set =
    subst (λ h. IsPicked h left right picked) (sym is)
    (record { ascends = test-from_Ascends picked set.ascends; members = set.members })
IsPicked-from_set copy f g left right (Err _) is set = set
