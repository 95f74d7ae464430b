use Rattle.std.proofs.Common.{Ok, Err, false, arith}
use Rattle.std.proofs.lemmas.Result.{err_from_is_err_and}
use Rattle.vc_merge.proofs.Chains.{so_far-none, so_far-more, goes_on-more}
use Rattle.vc_merge.proofs.linear.walk_runs.Goals as goal

pub runs-init : goal.runs-init
runs-init g c = record {
  ready = c.requires.ready;
  so_far = so_far-none _ _ _ c.requires.ascend;
  heads = c.compare_heads-heads.ensures.value;
  counted = grind (arith, c.compare_heads-heads.ensures.counted);
}

pub returns-in_err-go_on-clause-walk : goal.returns-in_err-go_on-clause-walk
returns-in_err-go_on-clause-walk g c =
    let p = err_from_is_err_and c.from_residual.result c.from_residual.ensures.1 in
    let run = c.runs.invariant in
    rw p.1 (goes_on-more _ _ _ _ _ (Err _) run.so_far (λ ls rs h. grind (arith, run.counted, h))
    c.in_err-go_on.ensures.next)

pub returns-then-not-go_on-clause-walk : goal.returns-then-not-go_on-clause-walk
returns-then-not-go_on-clause-walk g c =
    let run = c.runs.invariant in
    goes_on-more _ _ _ _ _ (Ok false) run.so_far (λ ls rs h. grind (arith, run.counted, h))
    (rw c.if-not-go_on.true at c.in_ok-go_on.ensures.next)

pub runs-preserved : goal.runs-preserved
runs-preserved g c = record {
  ready = c.in_ok-go_on.ensures.ready c.if-not-go_on.false;
  so_far = so_far-more _ _ _ _ _ c.runs.invariant.so_far (rw c.if-not-go_on.false at c.in_ok-go_on.ensures.next);
  heads = c.in_ok-go_on.ensures.heads c.if-not-go_on.false;
  counted = grind (arith, c.in-Some.is, c.runs.invariant.counted, c.in_ok-go_on.ensures.paid c.if-not-go_on.false);
}
