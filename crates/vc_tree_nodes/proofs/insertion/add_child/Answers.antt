-- The node gets one more child, or stays alike.
use Rattle.std.proofs.Common.{refl}
use Rattle.std.proofs.lemmas.Result.{on_ok_weaker}
use Rattle.vc_tree_model.specs.Snapshot.{tree_alike_refl}
use Rattle.vc_tree_nodes.proofs.Events.{always-err, on-both, child-added, parts-canonical, inserted-canonical}
use Rattle.vc_tree_nodes.proofs.Growing.{gap-within}
use Rattle.vc_tree_nodes.proofs.insertion.add_child.Goals as goal

pub returns-in_err-leaf-clause-err : goal.returns-in_err-leaf-clause-err
returns-in_err-leaf-clause-err g c =
    always-err c.from_residual.result (tree_alike_refl g.T.Build.keeps g.met.T.Build.keeps_refl
    (g.T.RadixNode.tree c.args.tree.now))

pub add_to-added-requires : goal.add_to-added-requires
add_to-added-requires g c =
    let parts = rw c.replace-node.ensures.value at c.take_apart-prefix.ensures in
    gap-within g.K.Ord.cmp g.T.RadixNode.tree _ c.requires.fits.first c.args.i (rw (← parts.children) at c.requires.fits.gap)

pub assemble-requires : goal.assemble-requires
assemble-requires g c =
    let tree = g.T.RadixNode.tree in
    let parts = rw c.replace-node.ensures.value at c.take_apart-prefix.ensures in
    on-both c.add_to-added.result c.add_to-added.ensures.ok c.add_to-added.ensures.err
    (λ added. inserted-canonical (child-added g.met.T.Build.keeps_refl g.met.T.Build.keeps_trans g.met.K.Ord.total tree
    (tree c.args.tree.now) parts.prefix parts.value parts.children refl parts.canonical c.requires.solid c.requires.fits
    c.in_ok-leaf.ensures.is added))
    (λ alike. parts-canonical g.met.T.Build.keeps_refl g.met.T.Build.keeps_trans g.met.K.Ord.total tree
    (tree c.args.tree.now) _ _ parts.prefix parts.value parts.children parts.canonical alike)

pub returns-clause-ok : goal.returns-clause-ok
returns-clause-ok g c =
    let tree = g.T.RadixNode.tree in
    let parts = rw c.replace-node.ensures.value at c.take_apart-prefix.ensures in
    on_ok_weaker c.add_to-added.result
    (λ added. child-added g.met.T.Build.keeps_refl g.met.T.Build.keeps_trans g.met.K.Ord.total tree (tree c.args.tree.now)
    parts.prefix parts.value parts.children c.assemble.ensures parts.canonical c.requires.solid c.requires.fits
    c.in_ok-leaf.ensures.is added)
    c.add_to-added.ensures.ok
