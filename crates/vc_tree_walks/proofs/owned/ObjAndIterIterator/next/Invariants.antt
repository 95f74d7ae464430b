-- The steps so far found nothing, and what they may still take has not grown.
use Rattle.std.proofs.Common.{◌≡◌, ◌≤◌}
use Rattle.vc_tree_walks.specs.OwnedLeft.{held_left, held_work}
use Rattle.vc_tree_walks.proofs.owned.ObjAndIterIterator.next.Given as goal

abbrev pub invariant-loop-item : goal.invariant-loop-item
invariant-loop-item g l =
    let tree = g.T.RadixNode.tree in
    record {
      left : held_left tree l.self ≡ held_left tree l.initial.self;
      work : held_work tree l.self ≤ held_work tree l.initial.self;
    }

abbrev pub decreases-loop-item : goal.decreases-loop-item
decreases-loop-item g l = held_work g.T.RadixNode.tree l.self
