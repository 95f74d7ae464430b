-- Where the merge stops.
use Rattle.std.proofs.Common.{rules}
use Rattle.vc_tree_facing.specs.Sides.{by_component}
use Rattle.vc_tree_edits.proofs.Passing.{children-ascend, only-stopped, stopped-next, stopped-fewer}
use Rattle.vc_tree_edits.proofs.Passing.{stopped-behind, on-some}
use Rattle.vc_tree_edits.proofs.pairs.merge_to_pair.Goals as goal

pub merge_as-never_refused-requires-clause-ascend : goal.merge_as-never_refused-requires-clause-ascend
merge_as-never_refused-requires-clause-ascend g c = record {
  left = children-ascend g.K.Ord.cmp g.A.RadixNode.tree 0 g.met.K.Ord.total _ c.requires.left;
  right = children-ascend g.K.Ord.cmp g.B.RadixNode.tree c.args.from g.met.K.Ord.total _ c.requires.right;
}

pub overflow_sub-lefts : goal.overflow_sub-lefts
overflow_sub-lefts g c =
    stopped-fewer _ _ _ _ _ _
    (only-stopped (λ s. s.left.now) (λ s. s.right.now)
    (by_component g.A.RadixNode.tree g.B.RadixNode.tree 0 c.args.from g.K.Ord.cmp) _ _ _ _ c.merge_as-never_refused.ensures.before)

pub returns : goal.returns
returns g c =
    let stop = c.stop_at.ensures in
    let stopped =
    only-stopped (λ s. s.left.now) (λ s. s.right.now)
    (by_component g.A.RadixNode.tree g.B.RadixNode.tree 0 c.args.from g.K.Ord.cmp) _ _ _ _
    c.merge_as-never_refused.ensures.before in
    record {
      next = rw stop.passed (stopped-next _ _ _ _ _ _ stopped _ _ stop.rights stop.end);
      before = on-some c.stop_at.result.other stop.rights (λ y e.
          let b = stopped-behind _ _ _ _ _ _ stopped y _ e in rw (stop.passed, b.2) b.1);
      counted = search rules;
    }
