use Rattle.std.proofs.Common.{Ok, Err, false, arith}
use Rattle.std.proofs.lemmas.Result.{err_from_is_err_and}
use Rattle.vc_merge.proofs.Chains.{so_far-none, so_far-more, goes_on-more}
use Rattle.vc_merge.proofs.linear.walk_block.Goals as goal

pub events-init : goal.events-init
events-init g c = record {
  ready = c.requires.ready;
  so_far = so_far-none _ _ _ c.requires.ascend;
  some = λ _. (c.requires.some_left, c.requires.some_right);
  shorter = omega arith;
  counted = omega arith;
}

pub events-preserved : goal.events-preserved
events-preserved g c =
    let on = c.if-not-branch.false in let shorter = c.in_ok-pass_heads.ensures.shorter on in
    let was = c.events.invariant in let cost = c.in-Some.ensures.counted in
    record {
      ready = c.in_ok-pass_heads.ensures.ready on;
      so_far = so_far-more _ _ _ _ _ was.so_far (rw on at c.in_ok-pass_heads.ensures.next);
      some = λ e. absurd (omega (arith, e));
      shorter = omega (arith, shorter, was.shorter);
      counted = omega (arith, shorter, was.counted, cost);
    }

pub returns-in_err-pass_heads-clause-goes_on : goal.returns-in_err-pass_heads-clause-goes_on
returns-in_err-pass_heads-clause-goes_on g c =
    let p = err_from_is_err_and c.from_residual.result c.from_residual.ensures.1 in
    let was = c.events.invariant in let cost = c.in-Some.ensures.counted in
    rw p.1 (goes_on-more _ _ _ _ _ (Err _) was.so_far (λ ls rs h. omega (arith, h.0, h.1, was.counted, cost))
    c.in_err-pass_heads.ensures.next)

pub returns-then-not-branch-clause-goes_on : goal.returns-then-not-branch-clause-goes_on
returns-then-not-branch-clause-goes_on g c =
    let was = c.events.invariant in let cost = c.in-Some.ensures.counted in
    goes_on-more _ _ _ _ _ (Ok false) was.so_far (λ ls rs h. omega (arith, h.0, h.1, was.counted, cost))
    (rw c.if-not-branch.true at c.in_ok-pass_heads.ensures.next)
