-- What is left of both lists tells of all of them; each call goes down to fewer nodes, or to a later part of the same two.
use Rattle.std.proofs.Common.{◌+◌, ◌*◌}
use Rattle.vc_tree_model.specs.Tree.{nodes, forest_nodes}
use Rattle.vc_tree_nodes.specs.Children.{seen}
use Rattle.vc_tree_combines.specs.Meeting.{AreTails}
use Rattle.vc_tree_combines.proofs.keys.+meeting.Given as goal

abbrev pub decreases-keys_meet : goal.decreases-keys_meet
decreases-keys_meet g l = 2 * (nodes (g.A.RadixNode.tree l.a.now) + nodes (g.B.RadixNode.tree l.b.now)) + 1

abbrev pub decreases-keys_meet_behind : goal.decreases-keys_meet_behind
decreases-keys_meet_behind g l = 2 * (nodes (g.A.RadixNode.tree l.a.now) + nodes (g.B.RadixNode.tree l.b.now))

abbrev pub decreases-keys_meet_below : goal.decreases-keys_meet_below
decreases-keys_meet_below g l =
    2 * (forest_nodes (seen g.A.RadixNode.tree l.left.now) + forest_nodes (seen g.B.RadixNode.tree l.right.now)) + 2

abbrev pub invariant-keys_meet_below-loop-x : goal.invariant-keys_meet_below-loop-x
invariant-keys_meet_below-loop-x g l =
    AreTails g.K.Ord.cmp g.A.RadixNode.tree g.B.RadixNode.tree l.shared l.left l.right l.lefts l.rights

abbrev pub decreases-keys_meet_below-loop-x : goal.decreases-keys_meet_below-loop-x
decreases-keys_meet_below-loop-x g l = forest_nodes (seen g.A.RadixNode.tree l.lefts)
