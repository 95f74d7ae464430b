-- The children up to now are done, and each call goes down to fewer nodes.
use Rattle.std.proofs.Common.{◌≡◌, length, map, Ok, []}
use Rattle.vc_tree_model.specs.Asking.{MayAnswerAt, CanAskAt}
use Rattle.vc_tree_model.specs.Combine.{IsLeftAt}
use Rattle.vc_tree_model.specs.Look.{values}
use Rattle.vc_tree_model.specs.Tree.{Tree, nodes}
use Rattle.vc_tree_facing.specs.Doing.{IsDoing}
use Rattle.vc_tree_combines.proofs.left.+asking.Given as goal

abbrev pub decreases-ask_onto : goal.decreases-ask_onto
decreases-ask_onto g l = nodes (g.A.RadixNode.tree l.tree.now)

abbrev pub invariant-loop-child : goal.invariant-loop-child
invariant-loop-child g l = record {
  doing :
      IsDoing g.K.Ord.cmp g.A.RadixNode.tree (λ (t : Tree g.row.K.Denot g.row.W.Denot). t) 0 0 (values g.K.Ord.cmp)
      (IsLeftAt (λ v w z. MayAnswerAt g.F.Fn l.answer v w (Ok z))) (CanAskAt g.F.Fn l.answer) l.initial.rest [] l.rest []
      (map g.M.RadixNode.tree l.kids.items);
  value : l.value ≡ l.initial.value;
}

abbrev pub decreases-loop-child : goal.decreases-loop-child
decreases-loop-child g l = length l.rest
