use Rattle.std.proofs.Common.{arith}
use Rattle.std.proofs.lemmas.Result.{err_from_is_err_and}
use Rattle.vc_merge.proofs.Chains.{goes_on-true, goes_on-more, goes_on-then, then_next-weaker, if_true-weaker}
use Rattle.vc_merge.proofs.SearchedRuns.{others-taken, one-taken, both-taken, both-fewer, less-on}
use Rattle.vc_merge.proofs.Strides.{place-paid}
use Rattle.vc_merge.proofs.searching.place_first.Goals as goal

pub returns-in_err-pass_side-clause-goes_on : goal.returns-in_err-pass_side-clause-goes_on
returns-in_err-pass_side-clause-goes_on g c =
    let p = err_from_is_err_and c.from_residual.result c.from_residual.ensures.1 in
    rw p.1 (then_next-weaker _ _ (λ ls rs h. absurd h) c.in_err-pass_side.ensures.goes_on)

pub returns-then-is_met-clause-goes_on : goal.returns-then-is_met-clause-goes_on
returns-then-is_met-clause-goes_on g c =
    let p = goes_on-true _ _ _ _ _ _ c.in_ok-pass_side.ensures.goes_on c.if-not-branch.false in
    let q = others-taken (g.O.MergeOperation.order c.args.op.now) g.M.MergeState.left g.M.MergeState.right
    (g.O.MergeOperation.ready c.args.op.now) c.args.shorter c.find_first-below.result.0 c.find_first-below.result.1 _ _ _
    (rw c.opposite.ensures at c.in_ok-pass_side.ensures.takes) c.if-not-branch.false c.find_first-below.ensures.place in
    goes_on-more _ _ _ _ _ _ p
    (λ ls rs h.
    let m = both-fewer c.args.shorter _ _ _ _ h in
    (omega (arith, m.0, q.2), place-paid _ _ _ _ _ _ c.find_first-below.ensures.counted (omega (arith, m.1, q.3))))
    c.meet.ensures.next

pub returns-then-is_met-clause-paid : goal.returns-then-is_met-clause-paid
returns-then-is_met-clause-paid g c =
    let q = others-taken (g.O.MergeOperation.order c.args.op.now) g.M.MergeState.left g.M.MergeState.right
    (g.O.MergeOperation.ready c.args.op.now) c.args.shorter c.find_first-below.result.0 c.find_first-below.result.1 _ _ _
    (rw c.opposite.ensures at c.in_ok-pass_side.ensures.takes) c.if-not-branch.false c.find_first-below.ensures.place in
    if_true-weaker _ (λ m. place-paid _ _ _ _ _ _ c.find_first-below.ensures.counted (less-on _ _ _ _ m q.3))
    (both-taken (g.O.MergeOperation.order c.args.op.now) g.M.MergeState.left g.M.MergeState.right
    (g.O.MergeOperation.ready c.args.op.now) c.args.shorter _ _ _ c.meet.ensures.takes)

pub returns-clause-goes_on : goal.returns-clause-goes_on
returns-clause-goes_on g c =
    let p = goes_on-true _ _ _ _ _ _ c.in_ok-pass_side.ensures.goes_on c.if-not-branch.false in
    goes_on-then _ _ _ _ _ _ p (λ ls rs h. absurd h) c.pass_side-2.ensures.goes_on

pub returns-clause-paid : goal.returns-clause-paid
returns-clause-paid g c =
    let q = others-taken (g.O.MergeOperation.order c.args.op.now) g.M.MergeState.left g.M.MergeState.right
    (g.O.MergeOperation.ready c.args.op.now) c.args.shorter c.find_first-below.result.0 c.find_first-below.result.1 _ _ _
    (rw c.opposite.ensures at c.in_ok-pass_side.ensures.takes) c.if-not-branch.false c.find_first-below.ensures.place in
    if_true-weaker _ (λ m. place-paid _ _ _ _ _ _ c.find_first-below.ensures.counted (less-on _ _ _ _ m q.3))
    (one-taken (g.O.MergeOperation.order c.args.op.now) g.M.MergeState.left g.M.MergeState.right
    (g.O.MergeOperation.ready c.args.op.now) c.args.shorter _ _ _ c.pass_side-2.ensures.takes)
