-- Nothing.
use Rattle.std.proofs.Common.{arith}
use Rattle.vc_tree_combines.proofs.Runs.{none-added}
use Rattle.vc_tree_combines.proofs.combines.CopyLeftCombine.add_right.Goals as goal

pub returns : goal.returns
returns g c = none-added g.K.Ord.cmp _ _ _ _ (λ k. grind arith)
