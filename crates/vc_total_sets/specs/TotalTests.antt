-- Tests of two total sets: at each value, and at the flags, which speak for the values in neither list.
use Rattle.std.specs.Prelude.{IsTrue}
use Rattle.std.specs.declared.cmp.Ordering.{Ordering}
use Rattle.vc_total_sets.specs.TotalSet.{TotalSet, has}

module _ {X : Type 0} (cmp : X → X → Ordering) where
  -- what is in a is in b
  pub record IsTotalSubset (a b : TotalSet X) : Type 0 where
    pub at : (x : X) → IsTrue (has cmp a x) → IsTrue (has cmp b x)
    pub elsewhere : IsTrue a.negated → IsTrue b.negated

  -- nothing is in both
  pub record IsTotalDisjoint (a b : TotalSet X) : Type 0 where
    pub at : (x : X) → IsTrue (has cmp a x) → IsTrue (has cmp b x) → ⊥
    pub elsewhere : IsTrue a.negated → IsTrue b.negated → ⊥
