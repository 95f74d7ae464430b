-- What a contract sees of a walk over the boundaries of two sets. No public clause cites these words.
use Rattle.std.specs.Prelude.{ℕ, ◌≤◌, Bool, List, drop, length}
use base.Fml.{GName}
use Rattle.vc_intervals.specs.declared.combine.Walk.{Walk}

module _ {X A : Type 0} {n : ℕ} where
  -- the boundaries that are left of the left set
  abbrev pub left_boundaries : Walk X n A → List X
  left_boundaries s = drop s.left s.a.now

  -- the boundaries that are left of the right set
  abbrev pub right_boundaries : Walk X n A → List X
  right_boundaries s = drop s.right s.b.now

  -- whether the place that it has reached is in the left set
  abbrev pub is_in_a : Walk X n A → Bool
  is_in_a s = s.in_a

  -- and in the right one
  abbrev pub is_in_b : Walk X n A → Bool
  is_in_b s = s.in_b

  -- the boundaries that were kept
  abbrev pub built_boundaries : Walk X n A → List X
  built_boundaries s = s.built.now.items

  -- which list they are in
  abbrev pub list_name : Walk X n A → GName
  list_name s = s.built.ghost_name

  -- its positions are within the boundaries
  abbrev pub HasPlaces : Walk X n A → Type 0
  HasPlaces s = (s.left ≤ length s.a.now) × (s.right ≤ length s.b.now)
