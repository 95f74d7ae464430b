-- The nodes so far have no value, and the steps that are left have not grown.
use Rattle.std.proofs.Common.{◌≡◌, ◌≤◌}
use Rattle.vc_tree_walks.specs.PrefixesLeft.{prefixes_left, prefixes_work}
use Rattle.vc_tree_walks.proofs.prefixes.PrefixesIterator.next.Given as goal

abbrev pub invariant-loop-node : goal.invariant-loop-node
invariant-loop-node g l =
    let cmp = g.K.Ord.cmp in
    let tree = g.T.RadixNode.tree in
    record {
      left : prefixes_left cmp tree l.self ≡ prefixes_left cmp tree l.initial.self;
      work : prefixes_work tree l.self ≤ prefixes_work tree l.initial.self;
    }

abbrev pub decreases-loop-node : goal.decreases-loop-node
decreases-loop-node g l = prefixes_work g.T.RadixNode.tree l.self
