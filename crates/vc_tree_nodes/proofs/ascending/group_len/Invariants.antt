-- The keys so far are of one group.
use Rattle.std.proofs.Common.{length, ◌-◌, ◌≤◌}
use Rattle.vc_tree_nodes.proofs.Runs.{GroupSoFar}
use Rattle.vc_tree_nodes.proofs.ascending.group_len.Given as goal

abbrev pub invariant-loop-len : goal.invariant-loop-len
invariant-loop-len g l = (l.len ≤ length l.run) × GroupSoFar (λ s. s.common) l.common l.len l.run

abbrev pub decreases-loop-len : goal.decreases-loop-len
decreases-loop-len g l = length l.run - l.len
