-- What was found above the node is nearest, but for the pairs of the node.
use Rattle.vc_tree_model.specs.Tree.{nodes}
use Rattle.vc_tree_walks.proofs.Sought.{IsSought}
use Rattle.vc_tree_walks.proofs.beside.find_beside.Given as goal

abbrev pub invariant-loop-found : goal.invariant-loop-found
invariant-loop-found g l =
    let tree = g.T.RadixNode.tree in
    IsSought g.K.Ord.cmp tree (tree l.tree) l.key l.end (tree l.node) l.used l.known l.found

abbrev pub decreases-loop-found : goal.decreases-loop-found
decreases-loop-found g l = nodes (g.T.RadixNode.tree l.node)
