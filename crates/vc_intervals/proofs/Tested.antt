-- What a walk that searches for a place says of two sets: that one is within the other, or that they share nothing.
use Rattle.std.proofs.Common.{◌≡◌, ◌↔◌, Bool, true, false, not, IsTrue, MatchBool, ◌⊎◌, arith}
use Rattle.std.specs.declared.cmp.Ordering.{Ordering}
use Rattle.vc_sets.specs.Select.{keeps}
use Rattle.vc_intervals.specs.Boundaries.{Intervals, holds}
use Rattle.vc_intervals.specs.IntervalsOf.{IsIntervalSubset, IsIntervalDisjoint}

-- what is known below all boundaries is added to what a walk tells
pub tells-all : {X : Type 0} (p : Bool) (said : X → Bool) (c : Bool) → p ≡ false
    → MatchBool c ((x : X) × (said x ≡ true)) ((x : X) → said x ≡ false)
    → MatchBool c ((p ≡ true) ⊎ ((x : X) × (said x ≡ true))) ((p ≡ false) × ((x : X) → said x ≡ false))
tells-all p said c e h = grind arith

module _ {X : Type 0} (cmp : X → X → Ordering) (a b : Intervals X) where
  -- what a walk tells of a place at which f is so
  abbrev pub Tells : (Bool → Bool → Bool) → Bool → Type 0
  Tells f c =
      MatchBool c ((f a.below b.below ≡ true) ⊎ ((x : X) × (f (holds cmp a x) (holds cmp b x) ≡ true)))
      ((f a.below b.below ≡ false) × ((x : X) → f (holds cmp a x) (holds cmp b x) ≡ false))

  pub subset-told : (c : Bool) → Tells (keeps true false false) c → IsTrue (not c) ↔ IsIntervalSubset cmp a b
  subset-told c h = grind arith

  pub disjoint-told : (c : Bool) → Tells (keeps false false true) c → IsTrue (not c) ↔ IsIntervalDisjoint cmp a b
  disjoint-told c h = grind arith
