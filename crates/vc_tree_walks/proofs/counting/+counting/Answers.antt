-- A call goes down to a tree of the list, and what it counts is added.
use Rattle.std.proofs.Common.{◌≤◌, ◌∙◌, rules}
use Rattle.vc_tree_model.specs.Tree.{forest_nodes, nodes}
use Rattle.vc_tree_nodes.specs.Children.{seen}
use Rattle.vc_tree_nodes.proofs.Finding.{child-nodes}
use Rattle.vc_tree_walks.proofs.KeyCounts.{counted-more}
use Rattle.vc_tree_walks.proofs.counting.+counting.Goals as goal

pub len_of_list-len-requires : goal.len_of_list-len-requires
len_of_list-len-requires g t c κs within =
    let tree = g.T.RadixNode.tree in
    let fewer : nodes (tree c.tree-item.result) ≤ forest_nodes (seen tree c.args.list.now) =
    rw c.tree-item.is (child-nodes g.K.Ord.cmp tree c.args.list.now c.loop-tree.tree-index c.tree-item.result
    c.loop-tree-test.true) in
    search rules

pub len_of_list-loop-tree-preserved : goal.len_of_list-loop-tree-preserved
len_of_list-loop-tree-preserved g t c =
    c.saturating_add-count.ensures
    ∙ counted-more g.T.RadixNode.tree c.args.list.now c.loop-tree.tree-index c.tree-item.result _ c.loop-tree.count
    c.len.result c.loop-tree-test.true c.tree-item.is c.loop-tree.invariant c.len.ensures
