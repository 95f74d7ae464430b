-- The closure's answer at a key of the left alone.
use Rattle.std.proofs.Common.{arith}
use Rattle.vc_tree_combines.proofs.Alone.{may-answer_at}
use Rattle.vc_tree_combines.proofs.left.ask_value.Goals as goal

pub returns-in-Some : goal.returns-in-Some
returns-in-Some g c = grind (arith, may-answer_at)
