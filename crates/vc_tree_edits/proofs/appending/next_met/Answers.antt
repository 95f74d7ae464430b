-- What has moved where the merge stops.
use Rattle.std.proofs.Common.{◌+◌, length, arith, refl, rules}
use Rattle.vc_tree_facing.specs.Sides.{by_component}
use Rattle.vc_tree_edits.specs.Appended.{ComesWhole, rest_of}
use Rattle.vc_tree_edits.proofs.Noting.{noted-stopped, noted-next}
use Rattle.vc_tree_edits.proofs.Passing.{all-within, children-ascend, on-next, stopped-fewer, stopped-behind}
use Rattle.vc_tree_edits.proofs.appending.next_met.Goals as goal

pub merge_as-requires-clause-ready : goal.merge_as-requires-clause-ready
merge_as-requires-clause-ready g c = (
  omega arith,
  all-within g.K.Ord.cmp g.met.K.Ord.total g.T.RadixNode.tree c.args.from (rest_of c.args.right) c.requires.right,
)

pub merge_as-requires-clause-ascend : goal.merge_as-requires-clause-ascend
merge_as-requires-clause-ascend g c = record {
  left = children-ascend g.K.Ord.cmp g.T.RadixNode.tree 0 g.met.K.Ord.total _ c.requires.left;
  right = children-ascend g.K.Ord.cmp g.T.RadixNode.tree c.args.from g.met.K.Ord.total _ c.requires.right;
}

pub overflow_sub-passed : goal.overflow_sub-passed
overflow_sub-passed g c =
    stopped-fewer _ _ _ _ _ _
    (noted-stopped (λ s. s.left.now) (λ s. rest_of s.right) (λ s. s.right.comers.items)
    (by_component g.T.RadixNode.tree g.T.RadixNode.tree 0 c.args.from g.K.Ord.cmp)
    (ComesWhole g.K.Ord.cmp g.T.Build.keeps g.T.RadixNode.tree c.args.from)
    (c.args.place + length c.args.lefts.now) _ _ _ c.in_ok-merge_as.ensures.before)

pub returns : goal.returns
returns g c =
    let next = c.take_next-other.ensures in
    let stopped =
    noted-stopped (λ s. s.left.now) (λ s. rest_of s.right) (λ s. s.right.comers.items)
    (by_component g.T.RadixNode.tree g.T.RadixNode.tree 0 c.args.from g.K.Ord.cmp)
    (ComesWhole g.K.Ord.cmp g.T.Build.keeps g.T.RadixNode.tree c.args.from)
    (c.args.place + length c.args.lefts.now) _ _ _ c.in_ok-merge_as.ensures.before in
    record {
      next = rw next.comers (noted-next _ _ _ _ _ _ _ c.args.place _ _ stopped refl _ _ next.rest next.end refl);
      before = on-next c.take_next-other.result next.rest (λ y e.
          let b = stopped-behind _ _ _ _ _ _ stopped y _ e in rw b.2 b.1);
      counted = search rules;
    }
