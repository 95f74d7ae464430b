-- What a contract sees of an `IntervalSet`: its boundaries, which are the places at which membership
-- changes, in ascending order, and whether it has what lies below all of them.
use Rattle.std.specs.Prelude.{◌≡◌, Bool, not, List, [], ◌∷◌, refl}
use Rattle.std.specs.Coded.{Coded, code_by, coded×, coded_bool, coded_list}
use Rattle.std.specs.List.{AllZip}
use Rattle.std.specs.Ordering.{is_le}
use Rattle.std.specs.declared.cmp.Ordering.{Ordering}
use Rattle.std.specs.declared.cmp.Ordering.TheVariants.{Equal}
use Rattle.vc_sets.specs.SetOf.{exactly_one}

-- the boundaries, and whether what lies below all of them is in the set
pub record Intervals (X : Type 0) : Type 0 where
  pub boundaries : List X
  pub below : Bool

module _ {X : Type 0} where
  -- the set with these boundaries that has what lies below them, or has not
  abbrev pub intervals : List X → Bool → Intervals X
  intervals boundaries below = record { boundaries = boundaries; below = below }

  -- how such a set is stored in the logic: as its two parts
  abbrev pub intervals_code : Coded X → Coded (Intervals X)
  intervals_code c = code_by (List X × Bool) (coded× (coded_list c) coded_bool) (λ s. (s.boundaries, s.below)) (λ p. intervals p.0 p.1) (λ _. refl)

  -- the set of what is not in this one: the same boundaries, and the other answer below them
  abbrev pub complement : Intervals X → Intervals X
  complement s = intervals s.boundaries (not s.below)

  module _ (cmp : X → X → Ordering) where
    -- the answer below all boundaries, negated once for each boundary at or below x
    abbrev pub toggled : Bool → List X → X → Bool
    toggled below [] x = below
    toggled below (t ∷ ts) x = exactly_one (is_le (cmp t x)) (toggled below ts x)

    -- whether x is in the set
    abbrev pub holds : Intervals X → X → Bool
    holds s x = toggled s.below s.boundaries x

    -- the two are equal: their boundaries element by element, and their answers below these
    pub record IsEqualIntervals (s t : Intervals X) : Type 0 where
      pub boundaries : AllZip (λ x y. cmp x y ≡ Equal) s.boundaries t.boundaries
      pub below : s.below ≡ t.below

  -- the second has clones of the boundaries of the first, and its answer below them
  pub record IsClonedIntervals (is_clone : X → X → Type 0) (s t : Intervals X) : Type 0 where
    pub boundaries : AllZip is_clone s.boundaries t.boundaries
    pub below : s.below ≡ t.below
