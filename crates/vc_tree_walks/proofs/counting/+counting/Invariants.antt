-- The trees before the place of the loop are counted, and each call goes down to fewer nodes.
use Rattle.std.proofs.Common.{◌≡◌, ◌+◌, ◌-◌, ◌*◌, ◌^◌, min, take}
use Rattle.vc_tree_model.specs.Tree.{forest_key_count, forest_nodes, nodes}
use Rattle.vc_tree_nodes.specs.Children.{seen}
use Rattle.vc_tree_walks.proofs.counting.+counting.Given as goal

abbrev pub decreases-len : goal.decreases-len
decreases-len g l = 2 * nodes (g.T.RadixNode.tree l.tree.now)

abbrev pub decreases-len_of_list : goal.decreases-len_of_list
decreases-len_of_list g l = 2 * forest_nodes (seen g.T.RadixNode.tree l.list.now) + 1

abbrev pub invariant-len_of_list-loop-tree : goal.invariant-len_of_list-loop-tree
invariant-len_of_list-loop-tree g l =
    l.count ≡ min (forest_key_count (seen g.T.RadixNode.tree (take l.tree-index l.list))) (2 ^ 64 - 1)
