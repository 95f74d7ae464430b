use Rattle.std.proofs.Common.{◌≡◌, ◌+◌, ◌≤◌, length, MatchOption, [], ◌⊎◌}
use Rattle.vc_merge.specs.Chain.{allows}
use Rattle.vc_merge.specs.Progress.{SoFar, HeadsCompare}
use Rattle.vc_merge.proofs.linear.walk_runs.Given as goal

abbrev pub invariant-runs : goal.invariant-runs
invariant-runs g l =
    let left = g.M.MergeState.left in
    let right = g.M.MergeState.right in
    let order = g.O.MergeOperation.order l.op in
    let start = g.C.Count.counted l.fn.steps + (length (left l.initial.state) + length (right l.initial.state)) in
    let spent = g.C.Count.counted l.steps + (length (left l.state) + length (right l.state)) in
    record {
      ready : g.O.MergeOperation.ready l.op l.state;
      so_far : SoFar (allows left right (g.O.MergeOperation.gives l.op)) order l.initial.state l.state;
      heads : MatchOption l.heads ((left l.state ≡ []) ⊎ (right l.state ≡ []))
          (λ o. HeadsCompare order (left l.state) (right l.state) o);
      counted : MatchOption l.heads (spent ≤ start) (λ _. spent ≤ start + 1);
    }

abbrev pub decreases-runs : goal.decreases-runs
decreases-runs g l = length (g.M.MergeState.left l.state) + length (g.M.MergeState.right l.state)
