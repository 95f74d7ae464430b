-- A lesser number is the least, and any other leaves the least as it is.
use Rattle.std.proofs.Common.{arith}
use Rattle.vc_tree_nodes.proofs.Runs.{least-new, least-stays}
use Rattle.vc_tree_nodes.proofs.ascending.least_common.Goals as goal
use Rattle.vc_tree_nodes.proofs.ascending.least_common.Goals.{then-step-least, else-step-least+then-step-least-2}
use Rattle.vc_tree_nodes.proofs.ascending.least_common.Goals.{else-step-least+else-step-least-2}

pub loop-step-preserved : goal.loop-step-preserved
loop-step-preserved g c =
    let so_far = c.loop-step.invariant.0 in
    let within = c.loop-step-test.true in
    let same = c.step-item.is in
    elim c.if-step-least.branch [
      | then-step-least w ↦ rw (w.least-is, w.count-is)
          (least-new (λ s. s.common) _ _ _ _ so_far within same w.if-step-least.true, omega arith)
      | else-step-least+then-step-least-2 w ↦ rw (w.least-is, w.count-is)
          (least-stays (λ s. s.common) _ _ _ _ so_far within same w.if-step-least.false, omega (arith, c.loop-step.invariant.1))
      | else-step-least+else-step-least-2 w ↦ rw (w.least-is, w.count-is)
          (least-stays (λ s. s.common) _ _ _ _ so_far within same w.if-step-least.false, omega (arith, c.loop-step.invariant.1))
    ]
