-- Rows that are used up leave as many values, and no more work.
use Rattle.std.proofs.Common.{◌≡◌, ◌≤◌}
use Rattle.vc_tree_walks.specs.ValuesLeft.{values_left, values_work}
use Rattle.vc_tree_walks.proofs.values.Values.next_tree.Given as goal

abbrev pub invariant-loop-tree : goal.invariant-loop-tree
invariant-loop-tree g l =
    let tree = g.T.RadixNode.tree in
    record {
      left : values_left tree l.self ≡ values_left tree l.initial.self;
      work : values_work tree l.self ≤ values_work tree l.initial.self;
    }

abbrev pub decreases-loop-tree : goal.decreases-loop-tree
decreases-loop-tree g l = values_work g.T.RadixNode.tree l.self
