-- A child has fewer nodes.
use Rattle.std.proofs.Common.{◌≡◌, ◌≤◌, ap, rules}
use Rattle.vc_tree_model.specs.Tree.{nodes, forest_nodes}
use Rattle.vc_tree_nodes.specs.Children.{seen}
use Rattle.vc_tree_nodes.proofs.Finding.{child-nodes}
use Rattle.vc_tree_nodes.proofs.showing.+show.Goals as goal

pub show-requires : goal.show-requires
show-requires g t c κs within =
    let tree = g.T.RadixNode.tree in
    let all : forest_nodes (seen tree c.children-child-items.result.now) ≡ forest_nodes (tree c.args.tree.now).children =
    ap forest_nodes c.children-child-items.ensures in
    let fewer : nodes (tree c.child-item.result) ≤ forest_nodes (seen tree c.children-child-items.result.now) =
    rw c.child-item.is (child-nodes g.K.Ord.cmp tree c.children-child-items.result.now c.loop-child.child-index
    c.child-item.result
    c.loop-child-test.true) in
    search rules
