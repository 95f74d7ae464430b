-- One more component agrees, or nothing is left; and where none is left of the prefix, what is left of the key.
use Rattle.std.proofs.Common.{arith}
use Rattle.vc_tree_nodes.proofs.Parted.{behind-shorter, behind-unlike, behind-whole}
use Rattle.vc_tree_nodes.proofs.PartingLemmas.{agree-more}
use Rattle.vc_tree_nodes.proofs.descent.rest_behind.Goals as goal

pub returns-then-key-prefix-clause-rest : goal.returns-then-key-prefix-clause-rest
returns-then-key-prefix-clause-rest g c = behind-shorter g.K.Ord.cmp c.args.prefix.now c.args.key.now c.if-key-prefix.true

pub returns-then-is_ne-clause-rest : goal.returns-then-is_ne-clause-rest
returns-then-is_ne-clause-rest g c =
    behind-unlike g.K.Ord.cmp c.args.prefix.now c.args.key.now c.loop-n.n c.index-prefix-n.result c.index-key-n.result
    c.loop-n-test.true c.if-key-prefix.false c.index-prefix-n.is c.index-key-n.is
    (grind (arith, c.cmp.ensures, c.is_ne.ensures, c.if-is_ne.true))

pub loop-n-preserved : goal.loop-n-preserved
loop-n-preserved g c = (
  agree-more g.K.Ord.cmp c.args.prefix.now c.args.key.now c.loop-n.n c.index-prefix-n.result c.index-key-n.result
      c.loop-n.invariant.0 c.loop-n-test.true (omega (arith, c.loop-n-test.true, c.if-key-prefix.false))
      c.index-prefix-n.is c.index-key-n.is (grind (arith, c.cmp.ensures, c.is_ne.ensures, c.if-is_ne.false)),
  omega (arith, c.loop-n.invariant.1),
  grind (arith, c.tick.ensures, c.loop-n.invariant.2),
)

pub returns-clause-rest : goal.returns-clause-rest
returns-clause-rest g c =
    behind-whole g.K.Ord.cmp c.args.prefix.now c.args.key.now c.loop-n.n c.loop-n-test.false c.loop-n.invariant.0
