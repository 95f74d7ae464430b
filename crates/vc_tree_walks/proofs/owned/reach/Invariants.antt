-- The places so far lead to the node.
use Rattle.std.proofs.Common.{◌-◌, length}
use Rattle.vc_tree_walks.proofs.Paths.{Leads}
use Rattle.vc_tree_walks.proofs.owned.reach.Given as goal

abbrev pub invariant-loop-depth : goal.invariant-loop-depth
invariant-loop-depth g l =
    let tree = g.T.RadixNode.tree in Leads (tree l.tree) l.path (tree l.node) l.depth

abbrev pub decreases-loop-depth : goal.decreases-loop-depth
decreases-loop-depth g l = length l.path - l.depth
