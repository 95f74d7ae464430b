-- Clones of elements, under an order `cmp` in which `Equal` means `==`.
use Rattle.std.specs.Prelude.{◌≡◌}
use Rattle.std.specs.declared.cmp.Ordering.{Ordering}

-- clones are equal to their sources: they compare as these do
abbrev pub ClonesAreEqual : {X : Type 0} → (X → X → Ordering) → (X → X → Type 0) → Type 0
ClonesAreEqual {X} cmp is_clone = (x y : X) → is_clone x y → (z : X) → cmp x z ≡ cmp y z
