-- The results of combines in place at one key.
--     union_from, inner_from, left_from, intersection_from, difference_from        what is said at each key, as each combine
-- says it
use Rattle.std.proofs.Common.{◌≡◌, Bool, true, false, Option, None, Some, arith}
use Rattle.vc_tree_model.specs.Combine.{IsInnerAt, IsLeftAt, IsOuterAt, IsUnionAt, IsIntersectionAt, IsDifferenceAt}
use Rattle.vc_tree_model.specs.Value.{IsKept}
use Rattle.vc_tree_edits.specs.Editing.{KeptThen, OrStays, IsMetAt}

module _ {V : Type 0} (keeps : V → V → Type 0) where
  pub union_from : (is_clone : V → V → Type 0) (v w z : Option V)
      → IsOuterAt keeps is_clone (KeptThen keeps (λ v w z. z ≡ Some v)) v w z → IsUnionAt keeps is_clone v w z
  union_from is_clone v w z h = grind arith

  module _ {W : Type 0} where
    pub inner_from : (may : V → W → Option V → Type 0) (v : Option V) (w : Option W) (z : Option V)
        → IsMetAt keeps false (KeptThen keeps may) v w z → IsInnerAt (KeptThen keeps may) v w z
    inner_from may v w z h = grind arith

    pub left_from : (may : V → W → Option V → Type 0) (v : Option V) (w : Option W) (z : Option V)
        → IsMetAt keeps true (KeptThen keeps may) v w z → IsLeftAt (OrStays keeps (KeptThen keeps may)) v w z
    left_from may v w z h = grind arith

    pub intersection_from : (v : Option V) (w : Option W) (z : Option V)
        → IsMetAt keeps false (KeptThen keeps (λ v w z. z ≡ Some v)) v w z → IsIntersectionAt keeps v w z
    intersection_from v w z h = grind arith

    pub difference_from : (v : Option V) (w : Option W) (z : Option V)
        → IsMetAt keeps true (KeptThen keeps (λ v w z. z ≡ None)) v w z → IsDifferenceAt keeps v w z
    difference_from v w z h = grind arith

    -- a value of the left alone stays, or goes
    pub alone_met : (b : Bool) (may : V → W → Option V → Type 0) (v z : Option V) → b ≡ true → IsKept keeps v z
        → IsMetAt keeps b may v None z
    alone_met b may v z e k = grind arith

    pub alone_gone : (b : Bool) (may : V → W → Option V → Type 0) (v : Option V) → b ≡ false → IsMetAt keeps b may v None None
    alone_gone b may v e = grind arith

  -- a tree of one side alone stays, or comes in
  pub alone-outer : (is_clone : V → V → Type 0) (may : V → V → Option V → Type 0) (v z : Option V) → IsKept keeps v z
      → IsOuterAt keeps is_clone may v None z
  alone-outer is_clone may v z k = grind arith
