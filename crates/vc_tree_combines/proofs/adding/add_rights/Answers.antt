-- The next tree, and then the others.
use Rattle.std.proofs.Common.{refl}
use Rattle.vc_tree_combines.proofs.Runs.{rights-none}
use Rattle.vc_tree_combines.proofs.adding.add_rights.Goals as goal

pub returns-then-not-keeps_right : goal.returns-then-not-keeps_right
returns-then-not-keeps_right g c =
    rights-none g.K.Ord.cmp (g.O.Combine.says c.args.op.now) (c.if-not-keeps_right.ensures refl) g.B.RadixNode.tree _ _
