-- The four operations of sets by name, and the three tests of two sets.
use Rattle.std.specs.Prelude.{Bool, ◌||◌, ◌&&◌, List}
use Rattle.std.specs.declared.cmp.Ordering.{Ordering}
use Rattle.vc_sets.specs.declared.vec_set.algebra.SetOp.{SetOp}
use Rattle.vc_sets.specs.declared.vec_set.algebra.SetOp.TheVariants.{Union, Intersection, SymmetricDifference, Difference}
use Rattle.vc_sets.specs.declared.vec_set.algebra.SetTest.{SetTest}
use Rattle.vc_sets.specs.declared.vec_set.algebra.SetTest.TheVariants.{Disjoint, Subset, Superset}
use Rattle.vc_sets.specs.SetOf.{and_not, exactly_one}
use Rattle.vc_sets.specs.Tests.{IsDisjoint, IsSubset}

-- whether an operation keeps what is in the left set, and in the right one
abbrev pub made_by : SetOp → Bool → Bool → Bool
made_by Union = ◌||◌
made_by Intersection = ◌&&◌
made_by SymmetricDifference = exactly_one
made_by Difference = and_not

-- what a test says
abbrev pub IsTestedBy : SetTest → {X : Type 0} → (X → X → Ordering) → List X → List X → Type 0
IsTestedBy Disjoint cmp a b = IsDisjoint cmp a b
IsTestedBy Subset cmp a b = IsSubset cmp a b
IsTestedBy Superset cmp a b = IsSubset cmp b a
