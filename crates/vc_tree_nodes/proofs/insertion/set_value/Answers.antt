-- The value of the prefix is new, and all else is as it was.
use Rattle.vc_tree_nodes.proofs.Events.{value-set}
use Rattle.vc_tree_nodes.proofs.insertion.set_value.Goals as goal

pub returns : goal.returns
returns g c =
    let tree = g.T.RadixNode.tree in
    let parts = rw c.replace-node.ensures.value at c.take_apart-prefix.ensures in
    value-set g.met.T.Build.keeps_refl g.met.T.Build.keeps_trans g.met.K.Ord.total (tree c.args.tree.now) c.args.value
    parts.prefix parts.children c.assemble.ensures parts.canonical
