use Rattle.std.proofs.Common.{◌+◌, ◌≤◌, length}
use Rattle.vc_merge.specs.Chain.{allows}
use Rattle.vc_merge.specs.Count.{by_strides}
use Rattle.vc_merge.specs.Plan.{fewer, more}
use Rattle.vc_merge.specs.Progress.{SoFar}
use Rattle.vc_merge.proofs.searching.search_each.Given as goal

abbrev pub invariant-events : goal.invariant-events
invariant-events g l =
    let left = g.M.MergeState.left in
    let right = g.M.MergeState.right in
    record {
      ready : g.O.MergeOperation.ready l.op l.state;
      so_far : SoFar (allows left right (g.O.MergeOperation.gives l.op)) (g.O.MergeOperation.order l.op) l.initial.state l.state;
      counted : g.C.Count.counted l.steps
          + by_strides l.exponent (fewer l.shorter (length (left l.state)) (length (right l.state)))
          (more l.shorter (length (left l.state)) (length (right l.state)))
          ≤ g.C.Count.counted l.initial.steps
          + by_strides l.exponent (fewer l.shorter (length (left l.initial.state)) (length (right l.initial.state)))
          (more l.shorter (length (left l.initial.state)) (length (right l.initial.state)));
    }

abbrev pub decreases-events : goal.decreases-events
decreases-events g l = fewer l.shorter (length (g.M.MergeState.left l.state)) (length (g.M.MergeState.right l.state))
