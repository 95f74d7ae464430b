-- Each call goes to fewer nodes, or to the parts of those; and of the children some are done, and made these trees.
use Rattle.std.specs.Prelude.{◌≡◌, ◌+◌, ◌*◌, ◌-◌, ◌≤◌, length, map, take, drop}
use Rattle.vc_tree_model.specs.Tree.{nodes, forest_nodes}
use Rattle.vc_tree_nodes.specs.Children.{listed, seen}
use Rattle.vc_tree_facing.specs.Doing.{IsDoing}
use Rattle.vc_tree_facing.specs.Facing.{shortened_in}
use Rattle.vc_tree_edits.specs.Pairs.{trees_of}
use Rattle.vc_tree_edits.proofs.lessening.+lessening.Given as goal

abbrev pub decreases-lessen_at : goal.decreases-lessen_at
decreases-lessen_at g l = 6 * (nodes (g.T.RadixNode.tree l.tree.now) + nodes (g.B.RadixNode.tree l.that.now)) + 3

abbrev pub decreases-lessen_inside : goal.decreases-lessen_inside
decreases-lessen_inside g l = 6 * (nodes (g.T.RadixNode.tree l.tree.now) + nodes (g.B.RadixNode.tree l.that.now)) + 2

abbrev pub decreases-lessen_node : goal.decreases-lessen_node
decreases-lessen_node g l =
    6 * (nodes (g.T.RadixNode.tree l.tree.now)
    + forest_nodes (shortened_in g.B.RadixNode.tree l.from (trees_of l.right))) + 2

abbrev pub decreases-lessen_kids : goal.decreases-lessen_kids
decreases-lessen_kids g l =
    6 * (forest_nodes (seen g.T.RadixNode.tree (listed g.T.Children.ChildList.items l.children))
    + forest_nodes (shortened_in g.B.RadixNode.tree l.from (trees_of l.right))) + 6

abbrev pub decreases-lessen_in : goal.decreases-lessen_in
decreases-lessen_in g l =
    6 * (forest_nodes (seen g.T.RadixNode.tree (g.T.Children.ChildList.items l.children.now))
    + forest_nodes (shortened_in g.B.RadixNode.tree l.from (trees_of l.right))) + 5

abbrev pub decreases-lessen_list : goal.decreases-lessen_list
decreases-lessen_list g l =
    6 * (forest_nodes (seen g.T.RadixNode.tree l.list.now.items)
    + forest_nodes (shortened_in g.B.RadixNode.tree l.from (trees_of l.right))) + 4

abbrev pub invariant-lessen_list-pairs : goal.invariant-lessen_list-pairs
invariant-lessen_list-pairs g l = record {
  order : l.kept ≤ l.at;
  within : l.at ≤ length l.list.items;
  long : length l.list.items ≡ length l.fn.list.items;
  going :
      IsDoing g.K.Ord.cmp g.T.RadixNode.tree g.B.RadixNode.tree 0 l.from (g.O.Lessen.look g.K.Ord.cmp)
      (g.O.Lessen.says l.op) (g.O.Lessen.asks l.op) l.fn.list.items (trees_of l.initial.rights)
      (drop l.at l.list.items) (trees_of l.rights) (map g.T.RadixNode.tree (take l.kept l.list.items));
}

abbrev pub decreases-lessen_list-pairs : goal.decreases-lessen_list-pairs
decreases-lessen_list-pairs g l = length l.list.items - l.at
