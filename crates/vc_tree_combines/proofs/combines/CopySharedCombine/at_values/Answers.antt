-- A clone of the left value is a copy of it.
use Rattle.std.proofs.Common.{arith}
use Rattle.vc_tree_combines.proofs.Alone.{ok-copies}
use Rattle.vc_tree_combines.proofs.combines.CopySharedCombine.at_values.Goals as goal

pub returns-in-Some : goal.returns-in-Some
returns-in-Some g c = grind (arith, ok-copies)
