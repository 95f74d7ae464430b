-- What a set operation keeps at each event of a script. No public clause cites these words.
use Rattle.std.specs.Prelude.{Bool, true, false, List, ◌⊎◌}
use Rattle.std.proofs.Common.{inl, inr}
use Rattle.std.specs.Cmp.{IsTotalOrder}
use Rattle.std.specs.declared.cmp.Ordering.{Ordering}
use Rattle.std.proofs.lemmas.Cmp.{on_total}
use Rattle.vc_merge.specs.Script.{Event, left_alone, right_alone, collision}
use Rattle.vc_merge.specs.Gathering.{GivesIf}

-- an element of either side
abbrev pub either : {X : Type 0} → X ⊎ X → X
either (inl x) = x
either (inr y) = y

-- one order on the elements of both sides
abbrev pub both_sides : {X : Type 0} → (X → X → Ordering) → X ⊎ X → X ⊎ X → Ordering
both_sides cmp u v = cmp (either u) (either v)

pub both_sides-total : {X : Type 0} (cmp : X → X → Ordering) → IsTotalOrder cmp → IsTotalOrder (both_sides cmp)
both_sides-total cmp total = on_total (λ u. either u) total

-- whether an element is kept that is only on the left, only on the right, and on both sides
abbrev pub keeps : Bool → Bool → Bool → Bool → Bool → Bool
keeps left right both true true = both
keeps left right both true false = left
keeps left right both false true = right
keeps left right both false false = false

-- what is kept at an event: what comes from its left element, where it has one, and otherwise from
-- its right one
abbrev pub KeptAt : {X : Type 0} → (Bool → Bool → Bool) → (X → X → Type 0) → (X → X → Type 0) → Event X X → List X → Type 0
KeptAt f from_left from_right (left_alone x) zs = GivesIf (f true false) (from_left x) zs
KeptAt f from_left from_right (right_alone y) zs = GivesIf (f false true) (from_right y) zs
KeptAt f from_left from_right (collision x y) zs = GivesIf (f true true) (from_left x) zs
