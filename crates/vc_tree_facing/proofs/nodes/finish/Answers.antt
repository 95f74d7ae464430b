-- A node with a value, or with at least two children, stays as it is.
use Rattle.std.proofs.Common.{arith}
use Rattle.vc_tree_facing.proofs.Opening.{whole-of}
use Rattle.vc_tree_facing.proofs.nodes.finish.Goals as goal

pub new_node-requires : goal.new_node-requires
new_node-requires g c =
    grind (arith, whole-of g.M.RadixNode.tree c.args.prefix.now c.args.value c.args.kids.items (λ e. grind arith))

pub returns : goal.returns
returns g c =
    grind (arith, whole-of g.M.RadixNode.tree c.args.prefix.now c.args.value c.args.kids.items (λ e. grind arith))
