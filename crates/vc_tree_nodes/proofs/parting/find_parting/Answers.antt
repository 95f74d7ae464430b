-- One more component agrees, or parts, and was compared once.
use Rattle.std.proofs.Common.{sym, ◌∙◌, arith}
use Rattle.vc_tree_nodes.proofs.PartingLemmas.{agree-more, parts-here}
use Rattle.vc_tree_nodes.proofs.parting.find_parting.Goals as goal

pub loop-n-preserved : goal.loop-n-preserved
loop-n-preserved g c = (
  agree-more g.K.Ord.cmp c.args.prefix.now c.args.key.now c.loop-n.n c.index-prefix-n.result c.index-key-n.result
      c.loop-n.invariant.0 c.loop-n-test.true c.if-n-key.true c.index-prefix-n.is c.index-key-n.is
      (sym c.cmp.ensures ∙ c.in-Equal.is),
  omega (arith, c.loop-n.invariant.1),
  grind (arith, c.tick.ensures, c.loop-n.invariant.2),
)

pub returns-in-Greater-clause-is : goal.returns-in-Greater-clause-is
returns-in-Greater-clause-is g c =
    parts-here g.K.Ord.cmp _ c.args.prefix.now c.args.key.now c.loop-n.n c.index-prefix-n.result c.index-key-n.result
    c.loop-n.invariant.0 c.loop-n-test.true c.if-n-key.true c.index-prefix-n.is c.index-key-n.is
    (sym c.cmp.ensures ∙ c.in-Greater.is)
