-- The closure's answer at a shared key.
use Rattle.std.proofs.Common.{arith}
use Rattle.vc_tree_combines.proofs.Alone.{may-answer}
use Rattle.vc_tree_combines.proofs.combines.OuterCombine.at_values.Goals as goal

pub returns-in-Some-w : goal.returns-in-Some-w
returns-in-Some-w g c = grind (arith, may-answer)
