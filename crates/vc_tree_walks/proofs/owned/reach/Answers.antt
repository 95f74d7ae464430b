-- Each place leads one node deeper, until no child is open.
use Rattle.vc_tree_walks.proofs.Paths.{leads-on, stops}
use Rattle.vc_tree_walks.proofs.owned.reach.Goals as goal

pub returns-in_default : goal.returns-in_default
returns-in_default g c =
    let tree = g.T.RadixNode.tree in
    stops (tree c.args.tree.now) c.args.path.now (tree c.loop-depth.node.now) c.loop-depth.depth _ c.loop-depth.invariant
    c.in_default.ensures

pub loop-depth-preserved : goal.loop-depth-preserved
loop-depth-preserved g c =
    let tree = g.T.RadixNode.tree in
    leads-on (tree c.args.tree.now) c.args.path.now (tree c.loop-depth.node.now) (tree c.in-Some.child.now)
    c.loop-depth.depth _ c.loop-depth.invariant c.loop-depth-test.true c.in-Some.ensures
