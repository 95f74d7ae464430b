-- Each call goes to fewer nodes, or to the parts of those; and the pairs up to now are done, within what all children pay.
use Rattle.std.proofs.Common.{◌+◌, ◌*◌, ◌≤◌, map, length}
use Rattle.std.specs.Option.{option_copied, option_to_list}
use Rattle.vc_merge.specs.Plan.{planned}
use Rattle.vc_tree_model.specs.Look.{values}
use Rattle.vc_tree_model.specs.Shortened.{forest_weight}
use Rattle.vc_tree_model.specs.Tree.{nodes, forest_nodes}
use Rattle.vc_tree_nodes.specs.Children.{seen}
use Rattle.vc_tree_facing.specs.Doing.{IsDoing}
use Rattle.vc_tree_facing.specs.Sides.{by_component}
use Rattle.vc_tree_combines.specs.Stopping.{IsAtPair}
use Rattle.vc_tree_combines.proofs.engine.+combining.Given as goal

abbrev pub decreases-combine_onto : goal.decreases-combine_onto
decreases-combine_onto g l = 4 * (nodes (g.A.RadixNode.tree l.a.now) + nodes (g.B.RadixNode.tree l.b.now)) + 3

abbrev pub decreases-combine_below : goal.decreases-combine_below
decreases-combine_below g l = 4 * (nodes (g.A.RadixNode.tree l.a.now) + nodes (g.B.RadixNode.tree l.b.now)) + 2

abbrev pub decreases-combine_inside : goal.decreases-combine_inside
decreases-combine_inside g l =
    4 * (nodes (g.A.RadixNode.tree l.a.now) + forest_nodes (seen g.B.RadixNode.tree l.others.now)) + 5

abbrev pub decreases-combine_within : goal.decreases-combine_within
decreases-combine_within g l =
    4 * (forest_nodes (seen g.A.RadixNode.tree l.trees.now) + nodes (g.B.RadixNode.tree l.b.now)) + 5

abbrev pub decreases-combine_one : goal.decreases-combine_one
decreases-combine_one g l =
    4 * (forest_nodes (seen g.A.RadixNode.tree (option_to_list (option_copied l.a)))
    + forest_nodes (seen g.B.RadixNode.tree (option_to_list (option_copied l.b)))) + 4

abbrev pub decreases-combine_kids : goal.decreases-combine_kids
decreases-combine_kids g l =
    4 * (forest_nodes (seen g.A.RadixNode.tree l.lefts.now) + forest_nodes (seen g.B.RadixNode.tree l.rights.now)) + 5

abbrev pub invariant-combine_kids-pairs : goal.invariant-combine_kids-pairs
invariant-combine_kids-pairs g l = record {
  doing :
      IsDoing g.K.Ord.cmp g.A.RadixNode.tree g.B.RadixNode.tree 0 0 (values g.K.Ord.cmp) (g.O.Combine.says l.op)
      (g.O.Combine.asks l.op) l.lefts l.rights l.state.left.now l.state.right.now
      (map g.O.Made.RadixNode.tree l.state.made.items);
  pair : IsAtPair (by_component g.A.RadixNode.tree g.B.RadixNode.tree 0 0 g.K.Ord.cmp) (λ ls rs.
      g.C.Count.counted l.steps + planned l.plan (length ls) (length rs)
      + 3 * (forest_weight (seen g.A.RadixNode.tree l.state.left.now) + forest_weight (seen g.B.RadixNode.tree l.state.right.now))
      ≤ g.C.Count.counted l.fn.steps
      + 3 * (forest_weight (seen g.A.RadixNode.tree l.lefts) + forest_weight (seen g.B.RadixNode.tree l.rights))
      + (length l.state.left.now + length l.state.right.now)) l.state.left.now l.state.right.now;
  spent : g.C.Count.counted l.steps ≤ g.C.Count.counted l.fn.steps
      + 3 * (forest_weight (seen g.A.RadixNode.tree l.lefts) + forest_weight (seen g.B.RadixNode.tree l.rights));
}

abbrev pub decreases-combine_kids-pairs : goal.decreases-combine_kids-pairs
decreases-combine_kids-pairs g l = length l.state.left.now
