-- Where the components of a prefix are stored. No public clause cites these words.
use Rattle.std.specs.Prelude.{◌≡◌, ◌≤◌, List, [], Some, None, length, take}
use Rattle.vc_tree_nodes.specs.declared.prefix.Cells.{Cells}
use Rattle.vc_tree_nodes.specs.declared.prefix.Cells.TheVariants.{Short, Apart}

module _ {K : Type 0} where
  -- the components that these cells hold
  abbrev pub stored : Cells K → List K
  stored (Short len places) = take len places
  stored (Apart (Some list)) = list.value.items
  stored (Apart None) = []

  -- there are as many places as the length says, at least
  abbrev pub IsSound : Cells K → Type 0
  IsSound (Short len places) = (len ≤ 16) × (length places ≡ 16)
  IsSound (Apart list) = Unit {0}
