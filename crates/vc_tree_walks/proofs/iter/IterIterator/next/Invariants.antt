-- The steps so far found nothing, and what they may still take has not grown.
use Rattle.std.proofs.Common.{◌≡◌, ◌≤◌}
use Rattle.vc_tree_walks.specs.IterLeft.{pairs_left, work_left}
use Rattle.vc_tree_walks.proofs.iter.IterIterator.next.Given as goal

abbrev pub invariant-loop-item : goal.invariant-loop-item
invariant-loop-item g l =
    let tree = g.T.RadixNode.tree in
    record {
      left : pairs_left tree l.self ≡ pairs_left tree l.initial.self;
      work : work_left tree l.self ≤ work_left tree l.initial.self;
    }

abbrev pub decreases-loop-item : goal.decreases-loop-item
decreases-loop-item g l = work_left g.T.RadixNode.tree l.self
