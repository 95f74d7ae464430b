-- Tests of two sets, by their members.
use Rattle.std.specs.Prelude.{List, IsTrue}
use Rattle.std.specs.declared.cmp.Ordering.{Ordering}
use Rattle.vc_merge.specs.Ascending.{member}

-- nothing is in both
abbrev pub IsDisjoint : {X : Type 0} → (X → X → Ordering) → List X → List X → Type 0
IsDisjoint {X} cmp a b = (x : X) → IsTrue (member cmp a x) → IsTrue (member cmp b x) → ⊥

-- what is in a is in b
abbrev pub IsSubset : {X : Type 0} → (X → X → Ordering) → List X → List X → Type 0
IsSubset {X} cmp a b = (x : X) → IsTrue (member cmp a x) → IsTrue (member cmp b x)
