-- What is below both trees, each by its whole prefix.
use Rattle.std.proofs.Common.{ap, arith, length, length-drop}
use Rattle.vc_tree_edits.proofs.Changing.{met-right}
use Rattle.vc_tree_edits.proofs.engine.meet.Goals as goal

pub overflow_add-j : goal.overflow_add-j
overflow_add-j g c =
    omega (
      arith,
      ap length c.prefix.ensures.value,
      length-drop c.args.j (g.B.RadixNode.tree c.args.that.now).prefix,
      c.prefix.type_inv.0,
      c.split-front.ensures.agree.within_key,
      c.requires.right,
    )

pub returns-clause-met : goal.returns-clause-met
returns-clause-met g c =
    met-right c.args.j (g.B.RadixNode.tree c.args.that.now) c.split-front.ensures c.trees_at-right_from.ensures.opened
