use Rattle.std.proofs.Common.{◌<◌, length, arith, rules}
use Rattle.std.proofs.lemmas.Result.{err_from_is_err_and}
use Rattle.vc_merge.proofs.Chains.{so_far-none, so_far-append, then_next-append, then_next-weaker, goes_on-true, walk-failed}
use Rattle.vc_merge.proofs.SearchedRuns.{fewer-some}
use Rattle.vc_merge.proofs.Strides.{more-paid, last-paid}
use Rattle.vc_merge.proofs.searching.search_each.Goals as goal

pub events-init : goal.events-init
events-init g c = record { ready = c.requires.ready; so_far = so_far-none _ _ _ c.requires.ascend; counted = omega arith }

pub returns-in_err-place_first : goal.returns-in_err-place_first
returns-in_err-place_first g c =
    let p = err_from_is_err_and c.from_residual.result c.from_residual.ensures.1 in
    record {
      walk = walk-failed _ _ c.events.invariant.so_far
          (then_next-weaker _ _ (λ ls rs h. more-paid c.args.exponent _ _ _ _ _ h.0 c.in_err-place_first.ensures.counted h.1
          c.events.invariant.counted) c.in_err-place_first.ensures.goes_on) p.1;
      spent = search rules;
      ready = search rules;
      counted =
          let left : 0 < length (g.M.MergeState.left c.events.state) = search rules in
          let right : 0 < length (g.M.MergeState.right c.events.state) = search rules in
          last-paid c.args.exponent _ _ _ _ _ (fewer-some c.args.shorter _ _ left right) c.in_err-place_first.ensures.counted
          c.events.invariant.counted;
    }

pub returns-then-not-branch : goal.returns-then-not-branch
returns-then-not-branch g c =
    record {
      walk = then_next-append _ _ c.events.invariant.so_far
          (then_next-weaker _ _ (λ ls rs h. more-paid c.args.exponent _ _ _ _ _ h.0 c.in_ok-place_first.ensures.counted h.1
          c.events.invariant.counted) (rw c.if-not-branch.true at c.in_ok-place_first.ensures.goes_on));
      spent = search rules;
      ready = search rules;
      counted =
          let left : 0 < length (g.M.MergeState.left c.events.state) = search rules in
          let right : 0 < length (g.M.MergeState.right c.events.state) = search rules in
          last-paid c.args.exponent _ _ _ _ _ (fewer-some c.args.shorter _ _ left right) c.in_ok-place_first.ensures.counted
          c.events.invariant.counted;
    }

pub events-preserved : goal.events-preserved
events-preserved g c =
    let on = c.if-not-branch.false in
    record {
      ready = c.in_ok-place_first.ensures.ready on;
      so_far = so_far-append _ _ _ _ _ c.events.invariant.so_far
          (goes_on-true _ _ _ _ _ _ c.in_ok-place_first.ensures.goes_on on);
      counted = more-paid c.args.exponent _ _ _ _ _ (c.in_ok-place_first.ensures.fewer on) c.in_ok-place_first.ensures.counted
          (c.in_ok-place_first.ensures.paid on) c.events.invariant.counted;
    }
