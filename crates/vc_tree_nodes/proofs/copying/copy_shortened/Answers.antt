-- A copied node is canonical since its parts are alike to the old ones.
use Rattle.std.proofs.Common.{rules}
use Rattle.vc_tree_model.specs.Value.{IsKept}
use Rattle.vc_tree_model.specs.Same.{IsAlikeIn}
use Rattle.vc_tree_nodes.specs.Children.{listed, seen}
use Rattle.vc_tree_nodes.proofs.Events.{copied-canonical}
use Rattle.vc_tree_nodes.proofs.copying.copy_shortened.Goals as goal

pub assemble-copy-requires : goal.assemble-copy-requires
assemble-copy-requires g c =
    let tree = g.S.RadixNode.tree c.args.tree.now in
    let value : IsKept g.V.Clone.is_clone tree.value c.in_ok-value.value = search rules in
    let children : IsAlikeIn g.V.Clone.is_clone tree.children
    (seen g.T.RadixNode.tree (listed g.T.Children.ChildList.items c.in_ok-children.children)) = search rules in
    copied-canonical g.V.Clone.is_clone g.K.Ord.cmp tree c.args.from _ _ c.in_ok-prefix.ensures.items
    c.prefix.ensures.value value children c.prefix.ensures.canonical
