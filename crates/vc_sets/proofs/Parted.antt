-- A set operation on the two parts of one list.
use Rattle.std.proofs.Common.{◌≡◌, ℕ, Bool, List, take, drop, arith}
use Rattle.std.specs.declared.cmp.Ordering.{Ordering}
use Rattle.vc_merge.proofs.Parted.{IsParted}
use Rattle.vc_sets.specs.SetOf.{IsSetOf}

-- what is made of the parts is made of the lists
pub set_of-parts : {X : Type 0} (cmp : X → X → Ordering) (L R : X → X → Type 0) (f : Bool → Bool → Bool)
    {old added all kept new : List X} {end next : ℕ}
    → IsParted old added all end next → new ≡ kept → IsSetOf cmp L R f (take end all) (drop next all) kept
    → IsSetOf cmp L R f old added new
set_of-parts cmp L R f parts e s = grind arith
