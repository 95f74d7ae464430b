-- The result of a set operation on two sets. It is given by f, which says whether an element is in
-- the result, from whether it is in the left set and in the right one.
use Rattle.std.specs.Prelude.{◌≡◌, Bool, true, false, not, ◌&&◌, List, Option, Some, None, IsSomeAnd, MatchBool, is_some}
use Rattle.std.specs.declared.cmp.Ordering.{Ordering}
use Rattle.vc_merge.specs.Ascending.{Ascends, member, element_at}

-- what is kept of an element, where the left set has `left` and the right set has `right`: of two
-- equal elements it comes from the left one
abbrev pub Keeps : {X : Type 0} → (Bool → Bool → Bool) → (X → X → Type 0) → (X → X → Type 0) → Option X → Option X → Option X → Type 0
Keeps f from_left from_right (Some x) right kept = MatchBool (f true (is_some right)) (IsSomeAnd kept (from_left x)) (kept ≡ None)
Keeps f from_left from_right None (Some y) kept = MatchBool (f false true) (IsSomeAnd kept (from_right y)) (kept ≡ None)
Keeps f from_left from_right None None kept = kept ≡ None

-- c is the result of f on a and b; an element of it comes from one of a by `from_left`, and
-- otherwise from one of b by `from_right`
pub record IsSetOf {X : Type 0} (cmp : X → X → Ordering) (from_left from_right : X → X → Type 0) (f : Bool → Bool → Bool) (a b c : List X) : Type 0 where
  pub ascends : Ascends cmp c
  pub members : (x : X) → member cmp c x ≡ f (member cmp a x) (member cmp b x)
  pub kept : (x : X) → Keeps f from_left from_right (element_at cmp a x) (element_at cmp b x) (element_at cmp c x)

-- in the left one and not in the right one
abbrev pub and_not : Bool → Bool → Bool
and_not a b = a && not b

-- in the left one or in the right one, and not in both
abbrev pub exactly_one : Bool → Bool → Bool
exactly_one true b = not b
exactly_one false b = b
