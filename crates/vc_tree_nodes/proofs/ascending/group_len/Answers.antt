-- Each key that has more in common is one more of the group, and the first that has not is behind it.
use Rattle.std.proofs.Common.{arith}
use Rattle.vc_tree_nodes.proofs.Runs.{group-more, group-found}
use Rattle.vc_tree_nodes.proofs.ascending.group_len.Goals as goal

pub loop-len-preserved : goal.loop-len-preserved
loop-len-preserved g c = (
  omega (arith, c.loop-len-test.true),
  group-more (λ s. s.common) c.args.common c.loop-len.len c.index-run-len.result c.args.run.now c.loop-len.invariant.1
      c.loop-len-test.true c.if-common-run.true,
)

pub returns-else-common-run : goal.returns-else-common-run
returns-else-common-run g c =
    group-found (λ s. s.common) c.args.common c.loop-len.len c.args.run.now c.loop-len.invariant.0
    c.loop-len.invariant.1 (λ w. (c.index-run-len.result, c.if-common-run.false))

pub returns-after-loop-len : goal.returns-after-loop-len
returns-after-loop-len g c =
    group-found (λ s. s.common) c.args.common c.loop-len.len c.args.run.now c.loop-len.invariant.0
    c.loop-len.invariant.1 (λ w. absurd (omega (arith, w, c.loop-len-test.false)))
