use Rattle.std.proofs.Common.{◌||◌, false, length, sym, ap, subst, ◌∙◌, arith, rules}
use mathlib.Core.Bool.{true≢false}
use Rattle.std.proofs.lemmas.List.Sorted.{list_any-IsPermutation}
use Rattle.std.specs.List.Sorted.{IsStrictlySortedBy}
use Rattle.vc_merge.proofs.ListLemmas.{nil-from_length}
use Rattle.vc_intervals.specs.Boundaries.{toggled}
use Rattle.vc_intervals.specs.Ranges.{in_range, in_some, StartsAscend}
use Rattle.vc_intervals.proofs.Swept.{all-swept, none-swept, moved-over}
use Rattle.vc_intervals.proofs.Sorted.{starts-sorted}
use Rattle.vc_intervals.proofs.interval_set.IntervalSet.from_ranges.Goals as goal

pub returns-in_err-boundaries-clause-room : goal.returns-in_err-boundaries-clause-room
returns-in_err-boundaries-clause-room g c h =
    let succeeds = c.in_err-boundaries.ensures.succeeds in
    let product = rw c.in_ok-room.ensures.ok_part at c.checked_mul.ensures in
    let items = c.sort_by_start.new.ranges.ok in
    absurd (true≢false (sym (succeeds (omega (arith, product.1, items, c.len.ensures, c.sort_by_start.ensures.len)))))

pub loop-range-init : goal.loop-range-init
unfolding IsStrictlySortedBy
loop-range-init g c =
    let cmp = g.T.Ord.cmp in
    let items = c.into_iter-range-iterator.ensures.into_iter_gives.0 in
    let none = c.in_ok-boundaries.ensures.items in
    record {
      can = tt;
      finite = tt;
      room = let product = rw c.in_ok-room.ensures.ok_part at c.checked_mul.ensures in
          let n = ap length items in let no = ap length none in
          omega (arith, product.1, n, no, c.sort_by_start.new.ranges.ok, c.len.ensures, c.in_ok-boundaries.ensures.capacity);
      ascends = rw none tt;
      starts = rw items (starts-sorted cmp g.met.T.Ord.total _ c.sort_by_start.ensures.sorted);
      swept = none-swept cmp g.met.T.Ord.total c.in_ok-boundaries.boundaries.items _ none;
      at = λ x. rw (items, none, list_any-IsPermutation (λ r. in_range cmp r x) _ _ c.sort_by_start.ensures.permutation) (grind arith);
    }

pub add_last-requires : goal.add_last-requires
add_last-requires g c =
    let steps = c.in-Some.ensures.steps.0 in
    let n = ap length steps in
    (search rules, (omega (arith, n, c.loop-range.invariant.room), (rw steps at c.loop-range.invariant.swept).0))

pub loop-range-preserved : goal.loop-range-preserved
loop-range-preserved g c =
    let cmp = g.T.Ord.cmp in
    let before = c.loop-range.invariant in
    let steps = c.in-Some.ensures.steps.0 in
    let starts = subst (StartsAscend cmp) steps before.starts in
    let n = ap length steps in
    record {
      can = tt;
      finite = tt;
      room = omega (arith, n, before.room, c.add_last.ensures.len, c.add_last.ensures.capacity);
      ascends = c.add_last.ensures.swept.ascends;
      starts = starts.1;
      swept = all-swept cmp g.met.T.Ord.total c.in-Some.range.start c.add_last.new.boundaries.items _ c.add_last.ensures.swept starts.0;
      at = λ x. moved-over (in_range cmp c.in-Some.range x) _ _ _ _ (c.add_last.ensures.added x)
          (ap (λ l. in_some cmp l x || toggled cmp false c.loop-range.boundaries.items x) (sym steps) ∙ before.at x);
    }

pub invariant_of-result : goal.invariant_of-result
invariant_of-result g c = c.loop-range.invariant.ascends

pub returns-clause-holds : goal.returns-clause-holds
returns-clause-holds g c x =
    let len = c.loop-range.range-iterator.rest.ok in
    let none = nil-from_length _ (omega (arith, len, c.in-None.ensures.steps.0)) in
    ap (λ l. in_some g.T.Ord.cmp l x || toggled g.T.Ord.cmp false c.loop-range.boundaries.items x) (sym none)
    ∙ c.loop-range.invariant.at x
