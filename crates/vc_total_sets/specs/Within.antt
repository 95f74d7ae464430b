-- The elements of a list that are in a total set.
use Rattle.std.specs.Prelude.{Bool, ◌&&◌}
use Rattle.vc_sets.specs.SetOf.{exactly_one}

-- whether an element of the list is found in a set with this flag, whose own list has an equal element or not
abbrev pub within_by : Bool → Bool → Bool → Bool
within_by negated in_list in_elements = in_list && exactly_one negated in_elements
