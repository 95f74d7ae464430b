-- Each call goes down to fewer nodes.
use Rattle.std.proofs.Common.{◌+◌, ◌*◌}
use Rattle.vc_tree_model.specs.Tree.{nodes, forest_nodes}
use Rattle.vc_tree_nodes.specs.Children.{seen}
use Rattle.vc_tree_removal.proofs.removal.+removal.Given as goal

abbrev pub decreases-remove_from : goal.decreases-remove_from
decreases-remove_from g l = 3 * nodes (g.T.RadixNode.tree l.tree.now)

abbrev pub decreases-remove_in : goal.decreases-remove_in
decreases-remove_in g l = 3 * forest_nodes (seen g.T.RadixNode.tree (g.T.Children.ChildList.items l.children.now)) + 2

abbrev pub decreases-remove_at : goal.decreases-remove_at
decreases-remove_at g l = 3 * forest_nodes (seen g.T.RadixNode.tree l.list.now.items) + 1
