-- The trees before the rests are the same, and each call goes down to fewer nodes.
use Rattle.std.proofs.Common.{◌≡◌, ◌+◌, ◌*◌, ◌≤◌, length}
use Rattle.vc_tree_model.specs.Tree.{nodes, forest_nodes}
use Rattle.vc_tree_model.specs.Equal.{same_tree_in}
use Rattle.vc_tree_nodes.specs.Children.{seen}
use Rattle.vc_tree_nodes.proofs.comparing.+comparing.Given as goal

abbrev pub decreases-has_same_nodes : goal.decreases-has_same_nodes
decreases-has_same_nodes g l = 2 * nodes (g.T.RadixNode.tree l.left.now)

abbrev pub decreases-is_same_list : goal.decreases-is_same_list
decreases-is_same_list g l = 2 * forest_nodes (seen g.T.RadixNode.tree l.left.now) + 1

abbrev pub invariant-is_same_list-loop-x : goal.invariant-is_same_list-loop-x
invariant-is_same_list-loop-x g l =
    let tree = g.T.RadixNode.tree in
    let same = same_tree_in g.K.Ord.cmp g.V.PartialEq.eq in
    (same (seen tree l.left) (seen tree l.right) ≡ same (seen tree l.left_rest) (seen tree l.right_rest))
    × (forest_nodes (seen tree l.left_rest) ≤ forest_nodes (seen tree l.left))

abbrev pub decreases-is_same_list-loop-x : goal.decreases-is_same_list-loop-x
decreases-is_same_list-loop-x g l = length l.left_rest
