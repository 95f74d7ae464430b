use Rattle.std.proofs.Common.{◌≡◌, ◌-◌, ◌+◌, ◌≤◌, ◌<◌, length}
use Rattle.vc_merge.specs.Chain.{allows}
use Rattle.vc_merge.specs.Progress.{SoFar}
use Rattle.vc_merge.proofs.linear.walk_block.Given as goal

abbrev pub invariant-events : goal.invariant-events
invariant-events g l =
    let left = g.M.MergeState.left in
    let right = g.M.MergeState.right in
    record {
      ready : g.O.MergeOperation.ready l.op l.state;
      so_far : SoFar (allows left right (g.O.MergeOperation.gives l.op)) (g.O.MergeOperation.order l.op) l.fn.state l.state;
      some : l.taken ≡ 0 → (0 < length (left l.state)) × (0 < length (right l.state));
      shorter : l.taken + (length (left l.state) + length (right l.state)) ≤ length (left l.fn.state) + length (right l.fn.state);
      counted : g.C.Count.counted l.steps + (length (left l.state) + length (right l.state))
          ≤ g.C.Count.counted l.fn.steps + (length (left l.fn.state) + length (right l.fn.state));
    }

abbrev pub decreases-events : goal.decreases-events
decreases-events g l = 32 - l.taken
