-- What is noted where the merge stops.
use Rattle.std.proofs.Common.{◌+◌, length, arith, refl, ap, rules}
use Rattle.vc_tree_facing.specs.Sides.{by_component}
use Rattle.vc_tree_edits.specs.Woven.{ComesAs}
use Rattle.vc_tree_edits.proofs.Noting.{noted-stopped, noted-next}
use Rattle.vc_tree_edits.proofs.Passing.{all-within, children-ascend, on-some, stopped-fewer, stopped-behind}
use Rattle.vc_tree_edits.proofs.comers.merge_and_note.Goals as goal

pub merge_as-requires-clause-ready : goal.merge_as-requires-clause-ready
merge_as-requires-clause-ready g c = (
  omega arith,
  all-within g.K.Ord.cmp g.met.K.Ord.total g.B.RadixNode.tree c.args.from c.args.rights.now c.requires.right,
)

pub merge_as-requires-clause-ascend : goal.merge_as-requires-clause-ascend
merge_as-requires-clause-ascend g c = record {
  left = children-ascend g.K.Ord.cmp g.T.RadixNode.tree 0 g.met.K.Ord.total _ c.requires.left;
  right = children-ascend g.K.Ord.cmp g.B.RadixNode.tree c.args.from g.met.K.Ord.total _ c.requires.right;
}

pub overflow_sub-lefts : goal.overflow_sub-lefts
overflow_sub-lefts g c =
    stopped-fewer _ _ _ _ _ _
    (noted-stopped (λ s. s.left.now) (λ s. s.right.now) (λ s. s.comers.items)
    (by_component g.T.RadixNode.tree g.B.RadixNode.tree 0 c.args.from g.K.Ord.cmp)
    (ComesAs g.K.Ord.cmp (g.O.Change.look g.K.Ord.cmp) (g.O.Change.says c.args.op.now) g.T.RadixNode.tree g.B.RadixNode.tree c.args.from)
    (c.args.place + length c.args.lefts.now) _ _ _ c.in_ok-merge_as.ensures.before)

pub returns : goal.returns
returns g c =
    let stop = c.stop_at.ensures in
    let stopped =
    noted-stopped (λ s. s.left.now) (λ s. s.right.now) (λ s. s.comers.items)
    (by_component g.T.RadixNode.tree g.B.RadixNode.tree 0 c.args.from g.K.Ord.cmp)
    (ComesAs g.K.Ord.cmp (g.O.Change.look g.K.Ord.cmp) (g.O.Change.says c.args.op.now) g.T.RadixNode.tree g.B.RadixNode.tree c.args.from)
    (c.args.place + length c.args.lefts.now) _ _ _ c.in_ok-merge_as.ensures.before in
    record {
      next = rw stop.passed
          (noted-next _ _ _ _ _ _ _ c.args.place _ _ stopped refl _ _ stop.rights stop.end
          (ap (λ v. v.items) c.replace.ensures.value));
      before = on-some c.stop_at.result.other stop.rights (λ y e.
          let b = stopped-behind _ _ _ _ _ _ stopped y _ e in rw (stop.passed, b.2) b.1);
      counted = search rules;
    }
