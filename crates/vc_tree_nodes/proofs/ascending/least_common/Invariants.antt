-- The least of the numbers so far, which are at least the one of the first key.
use Rattle.std.proofs.Common.{◌≤◌}
use Rattle.vc_tree_nodes.proofs.Runs.{LeastSoFar}
use Rattle.vc_tree_nodes.proofs.ascending.least_common.Given as goal

abbrev pub invariant-loop-step : goal.invariant-loop-step
invariant-loop-step g l = LeastSoFar (λ s. s.common) l.least l.run l.step-index × (l.count ≤ l.step-index)
