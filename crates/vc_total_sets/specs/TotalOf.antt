-- The result of an operation on two total sets. It is given by f, which says whether a value is in
-- the result, from whether it is in the left set and in the right one.
use Rattle.std.specs.Prelude.{◌≡◌, Bool, ◌&&◌, MatchBool}
use Rattle.std.specs.declared.cmp.Ordering.{Ordering}
use Rattle.vc_merge.specs.Ascending.{Ascends}
use Rattle.vc_sets.specs.SetOf.{IsSetOf, exactly_one}
use Rattle.vc_total_sets.specs.TotalSet.{TotalSet, has}

-- whether a value is in the list of the result, by the flags of the two sets and by whether it is
-- in their lists. It is where f says something else of it than of the values in neither list
abbrev pub listed_by : (Bool → Bool → Bool) → Bool → Bool → Bool → Bool → Bool
listed_by f a_negated b_negated in_a in_b = exactly_one (f a_negated b_negated) (f (exactly_one a_negated in_a) (exactly_one b_negated in_b))

module _ {X : Type 0} (cmp : X → X → Ordering) (from : X → X → Type 0) (f : Bool → Bool → Bool) where
  -- c is the result of f on a and b. The flag is what f says of the values in neither list. An
  -- element of the list comes by `from` from one of a, where a lists an equal one, and otherwise
  -- from one of b
  pub record IsTotalOf (a b c : TotalSet X) : Type 0 where
    pub negated : c.negated ≡ f a.negated b.negated
    pub elements : IsSetOf cmp from from (listed_by f a.negated b.negated) a.elements b.elements c.elements

  -- the same, but where both sets are negated, the elements of b are preferred to those of a
  abbrev pub IsTotalOfEither : TotalSet X → TotalSet X → TotalSet X → Type 0
  IsTotalOfEither a b c = MatchBool (a.negated && b.negated) (IsTotalOf b a c) (IsTotalOf a b c)

-- c is the result of f on a and b, whichever of equal elements it lists: at each value, and at the
-- flag, which speaks for the values in neither list
pub record IsPointwise {X : Type 0} (cmp : X → X → Ordering) (f : Bool → Bool → Bool) (a b c : TotalSet X) : Type 0 where
  pub ascends : Ascends cmp c.elements
  pub at : (x : X) → has cmp c x ≡ f (has cmp a x) (has cmp b x)
  pub elsewhere : c.negated ≡ f a.negated b.negated
