use Rattle.std.proofs.Common.{◌+◌, ◌≤◌, length}
use Rattle.vc_merge.specs.Chain.{allows}
use Rattle.vc_merge.specs.Progress.{SoFar}
use Rattle.vc_merge.proofs.linear.walk_blocks.Given as goal

abbrev pub invariant-blocks-2 : goal.invariant-blocks-2
invariant-blocks-2 g l =
    let left = g.M.MergeState.left in
    let right = g.M.MergeState.right in
    record {
      ready : g.O.MergeOperation.ready l.op l.state;
      so_far : SoFar (allows left right (g.O.MergeOperation.gives l.op)) (g.O.MergeOperation.order l.op) l.fn.state l.state;
      counted : g.C.Count.counted l.steps + (length (left l.state) + length (right l.state))
          ≤ g.C.Count.counted l.fn.steps + (length (left l.fn.state) + length (right l.fn.state));
    }

abbrev pub decreases-blocks-2 : goal.decreases-blocks-2
decreases-blocks-2 g l = length (g.M.MergeState.left l.state) + length (g.M.MergeState.right l.state)
