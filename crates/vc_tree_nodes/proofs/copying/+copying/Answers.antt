-- A copied node is canonical since its parts are alike to the old ones; a list of copies grows by one.
use Rattle.std.proofs.Common.{◌≤◌, rules}
use Rattle.vc_tree_model.specs.Value.{IsKept}
use Rattle.vc_tree_model.specs.Tree.{nodes, forest_nodes}
use Rattle.vc_tree_model.specs.Same.{IsAlikeIn}
use Rattle.vc_tree_nodes.specs.Children.{listed, seen}
use Rattle.vc_tree_model.proofs.AlikeLemmas.{alike-more}
use Rattle.vc_tree_nodes.proofs.Events.{copied-canonical}
use Rattle.vc_tree_nodes.proofs.Finding.{child-nodes}
use Rattle.vc_tree_nodes.proofs.copying.+copying.Goals as goal

pub copy_onto-assemble-requires : goal.copy_onto-assemble-requires
copy_onto-assemble-requires g t c =
    let tree = g.S.RadixNode.tree c.args.tree.now in
    let value : IsKept g.V.Clone.is_clone tree.value c.in_ok-value.value = search rules in
    let children : IsAlikeIn g.V.Clone.is_clone tree.children
    (seen g.T.RadixNode.tree (listed g.T.Children.ChildList.items c.in_ok-children.children)) = search rules in
    copied-canonical g.V.Clone.is_clone g.K.Ord.cmp tree c.args.from _ _ c.in_ok-prefix.ensures.items
    c.prefix.ensures.value value children c.prefix.ensures.canonical

pub copy_list-copy_onto-requires : goal.copy_list-copy_onto-requires
copy_list-copy_onto-requires g t c κs within =
    let tree = g.S.RadixNode.tree in
    let fewer : nodes (tree c.tree-item.result) ≤ forest_nodes (seen tree c.args.list.now) =
    rw c.tree-item.is (child-nodes g.K.Ord.cmp tree c.args.list.now c.loop-tree.tree-index c.tree-item.result
    c.loop-tree-test.true) in
    search rules

pub copy_list-loop-tree-preserved : goal.copy_list-loop-tree-preserved
copy_list-loop-tree-preserved g t c =
    let one = c.in_ok-copy_onto.ensures.alike in
    alike-more g.V.Clone.is_clone g.S.RadixNode.tree g.T.RadixNode.tree c.args.list.now c.loop-tree.copies.items
    c.copy_onto.new.copies.items c.loop-tree.tree-index c.tree-item.result one.0 c.loop-tree-test.true c.tree-item.is
    one.1 c.loop-tree.invariant one.2
