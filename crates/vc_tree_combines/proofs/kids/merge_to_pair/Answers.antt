-- What holds of the trees that are done, holds where the merge stops.
use Rattle.vc_tree_facing.specs.Sides.{by_component}
use Rattle.vc_tree_combines.proofs.Passing.{children-ascend}
use Rattle.vc_tree_combines.proofs.Runs.{on-ok}
use Rattle.vc_tree_combines.proofs.Stopped.{HasStopped, stopped}
use Rattle.vc_tree_combines.proofs.kids.merge_to_pair.Goals as goal

pub merge_as-requires-clause-ascend : goal.merge_as-requires-clause-ascend
merge_as-requires-clause-ascend g c = record {
  left = children-ascend g.K.Ord.cmp g.A.RadixNode.tree g.met.K.Ord.total _ c.requires.doing.left;
  right = children-ascend g.K.Ord.cmp g.B.RadixNode.tree g.met.K.Ord.total _ c.requires.doing.right;
}

pub returns : goal.returns
returns g c =
    let h = stopped (λ s. s.left.now) (λ s. s.right.now)
    (by_component g.A.RadixNode.tree g.B.RadixNode.tree 0 0 g.K.Ord.cmp) _ _ _ _ _ c.requires.doing c.merge_as.ensures.before in
    record {
      doing = on-ok _ h (λ (s : HasStopped _ _ _ _ _ _ _). s.kept);
      pair = on-ok _ h (λ (s : HasStopped _ _ _ _ _ _ _). s.pair);
      left = on-ok _ h (λ (s : HasStopped _ _ _ _ _ _ _). s.left_part);
      right = on-ok _ h (λ (s : HasStopped _ _ _ _ _ _ _). s.right_part);
      counted = c.merge_as.ensures.counted;
    }
