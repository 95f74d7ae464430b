use Rattle.std.proofs.Common.{inl, inr}
use Rattle.vc_merge.proofs.PlaceLemmas.{ordered-ascends}
use Rattle.vc_merge.proofs.SearchedRuns.{place-left, place-right}
use Rattle.vc_merge.proofs.searching.find_first.Goals as goal

pub search_near-requires-clause-ordered : goal.search_near-requires-clause-ordered
search_near-requires-clause-ordered g c =
    rw c.b_slice.ensures (ordered-ascends (g.O.MergeOperation.order c.args.op.now)
    (g.met.O.MergeOperation.total c.args.op.now) (inl c.index-a_slice-0.result) (λ x. inr x) _ c.requires.ascend.right)

pub search_near-requires-in-Right-clause-ordered : goal.search_near-requires-in-Right-clause-ordered
search_near-requires-in-Right-clause-ordered g c =
    rw c.a_slice-in-Right.ensures (ordered-ascends (g.O.MergeOperation.order c.args.op.now)
    (g.met.O.MergeOperation.total c.args.op.now) (inr c.index-b_slice-0.result) (λ x. inl x) _ c.requires.ascend.left)

pub returns-in-Left-clause-place : goal.returns-in-Left-clause-place
returns-in-Left-clause-place g c =
    rw (c.in-Left.is, c.place_found.ensures.place, c.place_found.ensures.equal) (
    place-left (g.O.MergeOperation.order c.args.op.now)
    (g.met.O.MergeOperation.total c.args.op.now) _ _ c.index-a_slice-0.result _ c.requires.ascend c.requires.some_left
    (rw c.a_slice.ensures at c.index-a_slice-0.is) (rw c.b_slice.ensures at c.search_near.ensures.place))

pub returns-in-Right-clause-place : goal.returns-in-Right-clause-place
returns-in-Right-clause-place g c =
    rw (c.in-Right.is, c.place_found-in-Right.ensures.place, c.place_found-in-Right.ensures.equal) (
    place-right (g.O.MergeOperation.order c.args.op.now)
    (g.met.O.MergeOperation.total c.args.op.now) _ _ c.index-b_slice-0.result _ c.requires.ascend c.requires.some_right
    (rw c.b_slice-in-Right.ensures at c.index-b_slice-0.is)
    (rw c.a_slice-in-Right.ensures at c.search_near-in-Right.ensures.place))
