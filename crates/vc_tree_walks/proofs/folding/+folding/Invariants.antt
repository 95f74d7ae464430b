-- Each call goes down to fewer nodes; what the closure makes of the trees from the place of the loop on, it makes of all.
use Rattle.std.proofs.Common.{◌≡◌, ◌+◌, ◌*◌, drop}
use Rattle.std.specs.List.{FoldsTo}
use Rattle.vc_tree_model.specs.Tree.{forest_nodes, nodes}
use Rattle.vc_tree_nodes.specs.Children.{seen}
use Rattle.vc_tree_walks.specs.Folding.{CanFold, IsStopped, Turns, pairs_in}
use Rattle.vc_tree_walks.proofs.folding.+folding.Given as goal

abbrev pub decreases-fold_node : goal.decreases-fold_node
decreases-fold_node g l = 2 * nodes (g.T.RadixNode.tree l.node.now)

abbrev pub decreases-fold_list : goal.decreases-fold_list
decreases-fold_list g l = 2 * forest_nodes (seen g.T.RadixNode.tree l.list.now) + 1

abbrev pub invariant-fold_list-loop-tree : goal.invariant-fold_list-loop-tree
invariant-fold_list-loop-tree g l =
    let tree = g.T.RadixNode.tree in
    record {
      key : l.key.items ≡ l.fn.key.items;
      callable : CanFold g.F.Fn l.turn l.last (pairs_in tree l.fn.key.items (drop l.tree-index l.list));
      folded : (last : _) → FoldsTo (Turns g.F.Fn l.turn) l.last (pairs_in tree l.fn.key.items (drop l.tree-index l.list)) last
          → FoldsTo (Turns g.F.Fn l.turn) l.fn.held (pairs_in tree l.fn.key.items l.list) last;
      stopped : (e : _) → IsStopped g.F.Fn l.turn l.last (pairs_in tree l.fn.key.items (drop l.tree-index l.list)) e
          → IsStopped g.F.Fn l.turn l.fn.held (pairs_in tree l.fn.key.items l.list) e;
    }
