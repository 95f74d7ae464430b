-- What two trees that are laid over one another bind a key to.
use Rattle.std.specs.Prelude.{Option, Some, None}

module _ {V W : Type 0} where
  -- the first value, of a key of both
  abbrev pub first_of_both : Option V → Option W → Option V
  first_of_both v (Some w) = v
  first_of_both v None = None

  -- the first value, of a key that the second tree lacks
  abbrev pub first_alone : Option V → Option W → Option V
  first_alone v (Some w) = None
  first_alone v None = v

module _ {V : Type 0} where
  -- at a key of both the result of h on its values, otherwise the value that is there
  abbrev pub merged_by : (V → V → V) → Option V → Option V → Option V
  merged_by h (Some v) (Some w) = Some (h v w)
  merged_by h (Some v) None = Some v
  merged_by h None w = w

  -- the second value, of a key of the first tree, where there is one
  abbrev pub renewed_by : Option V → Option V → Option V
  renewed_by (Some v) (Some w) = Some w
  renewed_by v None = v
  renewed_by None w = None
