-- The next tree, and then the others.
use Rattle.std.proofs.Common.{refl}
use Rattle.vc_tree_combines.proofs.Runs.{lefts-none}
use Rattle.vc_tree_combines.proofs.adding.add_lefts.Goals as goal

pub returns-then-not-keeps_left : goal.returns-then-not-keeps_left
returns-then-not-keeps_left g c =
    lefts-none g.K.Ord.cmp (g.O.Combine.says c.args.op.now) (c.if-not-keeps_left.ensures refl) g.A.RadixNode.tree _ _
