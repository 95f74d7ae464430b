-- The trees that came are the same, and each call goes down to fewer nodes.
use Rattle.std.proofs.Common.{◌≡◌, ◌+◌, ◌*◌}
use Rattle.vc_tree_model.specs.Tree.{forest, nodes, forest_nodes}
use Rattle.vc_tree_nodes.proofs.sharing.+sharing.Given as goal

abbrev pub decreases-share_tree : goal.decreases-share_tree
decreases-share_tree g l = 2 * nodes l.tree

abbrev pub decreases-share_list : goal.decreases-share_list
decreases-share_list g l = 2 * forest_nodes (forest l.list.items) + 1

abbrev pub invariant-share_list-loop-tree : goal.invariant-share_list-loop-tree
invariant-share_list-loop-tree g l = l.shared.items ≡ l.yielded
