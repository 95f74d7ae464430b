-- Each call goes down to fewer nodes.
use Rattle.std.proofs.Common.{◌+◌, ◌*◌, map}
use Rattle.vc_tree_model.specs.Tree.{forest, nodes, forest_nodes}
use Rattle.vc_tree_nodes.proofs.insertion.+insertion.Given as goal

abbrev pub decreases-insert_from : goal.decreases-insert_from
decreases-insert_from g l = 4 * nodes (g.T.RadixNode.tree l.tree.now) + 3

abbrev pub decreases-insert_behind : goal.decreases-insert_behind
decreases-insert_behind g l = 4 * nodes (g.T.RadixNode.tree l.tree.now) + 2

abbrev pub decreases-insert_below : goal.decreases-insert_below
decreases-insert_below g l = 4 * nodes (g.T.RadixNode.tree l.tree.now) + 1

abbrev pub decreases-insert_into : goal.decreases-insert_into
decreases-insert_into g l =
    4 * forest_nodes (forest (map g.T.RadixNode.tree (g.T.Children.ChildList.items l.children.now))) + 4
