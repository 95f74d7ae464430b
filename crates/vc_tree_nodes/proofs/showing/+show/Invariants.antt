-- Each child has fewer nodes.
use Rattle.vc_tree_model.specs.Tree.{nodes}
use Rattle.vc_tree_nodes.proofs.showing.+show.Given as goal

abbrev pub decreases-show : goal.decreases-show
decreases-show g l = nodes (g.T.RadixNode.tree l.tree.now)
