-- Each call goes down to fewer nodes, or to the parts of those; and of a list the trees up to now are done.
use Rattle.std.proofs.Common.{◌+◌, ◌*◌, ◌-◌, ◌≤◌, map, length, take, drop}
use Rattle.std.specs.Option.{option_copied, option_to_list}
use Rattle.vc_tree_model.specs.Tree.{nodes, forest_nodes}
use Rattle.vc_tree_nodes.specs.Children.{seen}
use Rattle.vc_tree_facing.specs.Doing.{IsDoing}
use Rattle.vc_tree_facing.specs.Facing.{shortened_in}
use Rattle.vc_tree_edits.specs.Pairs.{trees_of}
use Rattle.vc_tree_edits.specs.Taken.{meeting_nodes}
use Rattle.vc_tree_edits.specs.Woven.{woven, AreWithin}
use Rattle.vc_tree_edits.proofs.engine.+changing.Given as goal

abbrev pub decreases-change_at : goal.decreases-change_at
decreases-change_at g l = 4 * (nodes (g.T.RadixNode.tree l.tree) + nodes (g.B.RadixNode.tree l.that.now)) + 3

abbrev pub decreases-change_below : goal.decreases-change_below
decreases-change_below g l =
    4 * meeting_nodes g.K.Ord.cmp g.T.RadixNode.tree g.B.RadixNode.tree l.left l.right l.right_from + 2

abbrev pub decreases-change_one : goal.decreases-change_one
decreases-change_one g l =
    4 * (nodes (g.T.RadixNode.tree l.tree) + forest_nodes (seen g.B.RadixNode.tree l.others.now)) + 5

abbrev pub decreases-change_beside : goal.decreases-change_beside
decreases-change_beside g l =
    4 * (nodes (g.T.RadixNode.tree l.tree)
    + forest_nodes (seen g.B.RadixNode.tree (option_to_list (option_copied l.that)))) + 4

abbrev pub decreases-change_list : goal.decreases-change_list
decreases-change_list g l =
    4 * (forest_nodes (seen g.T.RadixNode.tree l.list.items)
    + forest_nodes (shortened_in g.B.RadixNode.tree l.right_from (trees_of l.right))) + 5

abbrev pub invariant-change_list-pairs : goal.invariant-change_list-pairs
invariant-change_list-pairs g l = record {
  order : l.kept ≤ l.at;
  within : l.at ≤ length l.list.items;
  places : AreWithin (length (take l.kept l.list.items)) l.comers.items;
  going :
      IsDoing g.K.Ord.cmp g.T.RadixNode.tree g.B.RadixNode.tree 0 l.right_from (g.O.Change.look g.K.Ord.cmp)
      (g.O.Change.says l.op) (g.O.Change.asks l.op) l.fn.list.items (trees_of l.initial.rights)
      (drop l.at l.list.items) (trees_of l.rights)
      (map g.T.RadixNode.tree (woven 0 (take l.kept l.list.items) l.comers.items));
}

abbrev pub decreases-change_list-pairs : goal.decreases-change_list-pairs
decreases-change_list-pairs g l = length l.list.items - l.at
