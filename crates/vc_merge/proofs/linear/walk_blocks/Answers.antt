use Rattle.std.proofs.Common.{arith}
use Rattle.std.proofs.lemmas.Result.{err_from_is_err_and}
use Rattle.vc_merge.proofs.Chains.{so_far-none, so_far-append, then_next-append, then_next-weaker, goes_on-true, walk-failed}
use Rattle.vc_merge.proofs.linear.walk_blocks.Goals as goal

pub blocks-2-init : goal.blocks-2-init
blocks-2-init g c = record { ready = c.requires.ready; so_far = so_far-none _ _ _ c.requires.ascend; counted = omega arith }

pub returns-in_err-walk_block-clause-goes_on : goal.returns-in_err-walk_block-clause-goes_on
returns-in_err-walk_block-clause-goes_on g c =
    let p = err_from_is_err_and c.from_residual.result c.from_residual.ensures.1 in
    let was = c.blocks-2.invariant in
    walk-failed _ _ was.so_far
    (then_next-weaker _ _ (λ ls rs h. omega (arith, h, was.counted)) c.in_err-walk_block.ensures.goes_on) p.1

pub returns-then-not-branch-clause-goes_on : goal.returns-then-not-branch-clause-goes_on
returns-then-not-branch-clause-goes_on g c =
    let was = c.blocks-2.invariant in
    then_next-append _ _ was.so_far
    (then_next-weaker _ _ (λ ls rs h. omega (arith, h, was.counted))
    (rw c.if-not-branch.true at c.in_ok-walk_block.ensures.goes_on))

pub blocks-2-preserved : goal.blocks-2-preserved
blocks-2-preserved g c =
    let on = c.if-not-branch.false in let paid = c.in_ok-walk_block.ensures.paid on in let was = c.blocks-2.invariant in
    record {
      ready = c.in_ok-walk_block.ensures.ready on;
      so_far = so_far-append _ _ _ _ _ was.so_far (goes_on-true _ _ _ _ _ _ c.in_ok-walk_block.ensures.goes_on on);
      counted = omega (arith, was.counted, paid);
    }
