-- What a merge that stops at two trees that begin alike has passed.
use Rattle.std.proofs.Common.{refl, inl, inr}
use Rattle.vc_tree_facing.proofs.Next.{nil-by}
use Rattle.vc_tree_combines.proofs.Passing.{children-ascend, told-missed, told-meeting, told-end}
use Rattle.vc_tree_combines.proofs.keys.merge_to_meeting.Goals as goal

pub merge-never_refused-requires-clause-ascend : goal.merge-never_refused-requires-clause-ascend
merge-never_refused-requires-clause-ascend g c = record {
  left = children-ascend g.K.Ord.cmp g.A.RadixNode.tree g.met.K.Ord.total _ c.requires.left;
  right = children-ascend g.K.Ord.cmp g.B.RadixNode.tree g.met.K.Ord.total _ c.requires.right;
}

pub returns-then-tails : goal.returns-then-tails
returns-then-tails g c =
    told-missed g.met.K.Ord.total g.A.RadixNode.tree g.B.RadixNode.tree _ _ _ _ _ _ refl
    c.requires.left c.requires.right _ c.merge-never_refused.ensures.merged c.if-tails.true

pub returns-in_default : goal.returns-in_default
returns-in_default g c =
    told-end g.met.K.Ord.total g.A.RadixNode.tree g.B.RadixNode.tree _ _ _ _ _ _ refl
    c.requires.left c.requires.right _ c.merge-never_refused.ensures.merged c.if-tails.false
    (inl (nil-by _ c.in_default.ensures.cases))

pub returns-in_default-split_first : goal.returns-in_default-split_first
returns-in_default-split_first g c =
    told-end g.met.K.Ord.total g.A.RadixNode.tree g.B.RadixNode.tree _ _ _ _ _ _ refl
    c.requires.left c.requires.right _ c.merge-never_refused.ensures.merged c.if-tails.false
    (inr (nil-by _ c.in_default-split_first.ensures.cases))

pub returns : goal.returns
returns g c =
    told-meeting g.met.K.Ord.total g.A.RadixNode.tree g.B.RadixNode.tree _ _ _ _ _ _ refl
    c.requires.left c.requires.right _ c.merge-never_refused.ensures.merged _ _ _ _ c.if-tails.false
    c.in-Some.ensures.cases.0 c.in-Some-split_first.ensures.cases.0
