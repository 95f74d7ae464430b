-- One more component agrees, or the key parts as the greater one, or goes on.
use Rattle.std.proofs.Common.{arith}
use Rattle.vc_tree_nodes.proofs.PartingLemmas.{agree-more}
use Rattle.vc_tree_nodes.proofs.Runs.{follows-longer}
use Rattle.vc_tree_nodes.proofs.ascending.common_front.Goals as goal

pub loop-n-preserved : goal.loop-n-preserved
loop-n-preserved g c =
    agree-more g.K.Ord.cmp c.args.before.now c.args.key.now c.loop-n.n c.index-before-n.result c.index-key-n.result
    c.loop-n.invariant (omega (arith, c.loop-n-test.true, c.min-both.ensures))
    (omega (arith, c.loop-n-test.true, c.min-both.ensures)) c.index-before-n.is c.index-key-n.is
    (grind (arith, c.cmp-order.ensures, c.is_ne.ensures, c.if-is_ne.false))

pub returns-then-n-key : goal.returns-then-n-key
returns-then-n-key g c =
    follows-longer g.K.Ord.cmp c.args.before.now c.args.key.now c.loop-n.n c.loop-n.invariant
    (omega (arith, c.loop-n-test.false, c.min-both.ensures, c.if-n-key.true)) c.if-n-key.true
