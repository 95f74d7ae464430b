-- Each call goes down to fewer nodes.
use Rattle.std.proofs.Common.{◌+◌, ◌*◌}
use Rattle.vc_tree_model.specs.Tree.{nodes, forest_nodes}
use Rattle.vc_tree_nodes.specs.Children.{seen}
use Rattle.vc_tree_removal.proofs.changing.+writing.Given as goal

abbrev pub decreases-write_from : goal.decreases-write_from
decreases-write_from g l = 2 * nodes (g.T.RadixNode.tree l.tree.now)

abbrev pub decreases-write_in : goal.decreases-write_in
decreases-write_in g l = 2 * forest_nodes (seen g.T.RadixNode.tree (g.T.Children.ChildList.items l.children.now)) + 1
