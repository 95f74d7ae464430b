-- The child before the count.
use Rattle.std.proofs.Common.{◌-◌, length, arith}
use Rattle.vc_tree_walks.proofs.Paths.{last-child, in-range}
use Rattle.vc_tree_walks.proofs.owned.last_entered.Goals as goal

pub returns-else-count-eq0 : goal.returns-else-count-eq0
returns-else-count-eq0 g c =
    let tree = g.T.RadixNode.tree in
    let kids = c.children-children.result.now in
    let i = c.args.count - 1 in
    last-child tree kids (tree c.args.node.now).children c.args.count i c.get.result (omega arith)
    c.children-children.ensures c.get.ensures.lookup.1 (in-range _ (length kids) i c.get.result c.get.ensures.lookup.3)
