-- A clone of the left value is a copy of it.
use Rattle.std.proofs.Common.{arith}
use Rattle.vc_tree_combines.proofs.Alone.{ok-copies}
use Rattle.vc_tree_combines.proofs.combines.CopyLeftCombine.at_values.Goals as goal

pub returns-in-None : goal.returns-in-None
returns-in-None g c = grind (arith, ok-copies)
