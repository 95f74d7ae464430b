-- Each call goes down to fewer nodes, or to the parts of those; and of a list the trees up to now are done.
use Rattle.std.proofs.Common.{◌+◌, ◌*◌, ◌-◌, length}
use Rattle.vc_tree_model.specs.Tree.{nodes, forest_nodes}
use Rattle.vc_tree_nodes.specs.Children.{seen}
use Rattle.vc_tree_facing.specs.Facing.{shortened_in}
use Rattle.vc_tree_edits.specs.Appended.{IsAppending, ended_of}
use Rattle.vc_tree_edits.specs.Taken.{lefts_of, from_of}
use Rattle.vc_tree_edits.proofs.appending.+appending.Given as goal

abbrev pub decreases-append_at : goal.decreases-append_at
decreases-append_at g l = 4 * (nodes (g.T.RadixNode.tree l.tree) + nodes (g.T.RadixNode.tree l.that)) + 3

abbrev pub decreases-append_below : goal.decreases-append_below
decreases-append_below g l =
    4 * (forest_nodes (shortened_in g.T.RadixNode.tree (from_of l.left) (lefts_of l.left)) + ended_of l.left
    + forest_nodes (shortened_in g.T.RadixNode.tree (from_of l.right) (lefts_of l.right)) + ended_of l.right) + 2

abbrev pub decreases-append_list : goal.decreases-append_list
decreases-append_list g l =
    4 * (forest_nodes (seen g.T.RadixNode.tree l.list.items)
    + forest_nodes (shortened_in g.T.RadixNode.tree l.from l.others.items)) + 5

abbrev pub invariant-append_list-pairs : goal.invariant-append_list-pairs
invariant-append_list-pairs g l =
    IsAppending g.K.Ord.cmp g.T.RadixNode.tree g.T.Build.keeps l.right_wins l.from l.fn.list.items l.fn.others.items l.list.items
    l.kept l.at l.right

abbrev pub decreases-append_list-pairs : goal.decreases-append_list-pairs
decreases-append_list-pairs g l = length l.list.items - l.at
