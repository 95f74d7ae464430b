-- A prefix that goes on has no value at the place.
use Rattle.std.proofs.Common.{arith, length-drop}
use Rattle.vc_tree_facing.proofs.Leaving.{inner-node}
use Rattle.vc_tree_facing.proofs.nodes.value_at.Goals as goal

pub returns-else-front-prefix : goal.returns-else-front-prefix
returns-else-front-prefix g c =
    grind (arith, inner-node c.args.from c.args.front (g.T.RadixNode.tree c.args.tree.now), length-drop)
