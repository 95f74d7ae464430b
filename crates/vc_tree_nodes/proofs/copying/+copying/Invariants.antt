-- The trees before the place of the loop are copied, and each call goes down to fewer nodes.
use Rattle.std.proofs.Common.{◌+◌, ◌*◌, take}
use Rattle.vc_tree_model.specs.Same.{IsAlikeIn}
use Rattle.vc_tree_model.specs.Tree.{nodes, forest_nodes}
use Rattle.vc_tree_nodes.specs.Children.{seen}
use Rattle.vc_tree_nodes.proofs.copying.+copying.Given as goal

abbrev pub decreases-copy_onto : goal.decreases-copy_onto
decreases-copy_onto g l = 2 * nodes (g.S.RadixNode.tree l.tree.now)

abbrev pub decreases-copy_list : goal.decreases-copy_list
decreases-copy_list g l = 2 * forest_nodes (seen g.S.RadixNode.tree l.list.now) + 1

abbrev pub invariant-copy_list-loop-tree : goal.invariant-copy_list-loop-tree
invariant-copy_list-loop-tree g l =
    IsAlikeIn g.V.Clone.is_clone (seen g.S.RadixNode.tree (take l.tree-index l.list))
    (seen g.T.RadixNode.tree l.copies.items)
