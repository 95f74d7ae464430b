use Rattle.std.proofs.Common.{refl, sym, ap, ◌∙◌}
use Rattle.std.specs.Ordering.{is_lt}
use Rattle.vc_intervals.proofs.Ranged.{less-told}
use Rattle.vc_intervals.proofs.Around.{overlap-next, overlap-last, range-start}
use Rattle.vc_intervals.proofs.interval_set.IntervalSet.overlaps.Goals as goal

pub returns-then-has_behind : goal.returns-then-has_behind
returns-then-has_behind g c =
    let range = c.args.range.now in
    let less = less-told c.cmp.ensures c.is_lt.ensures c.if-not-is_lt.false in (
      λ _. (
        range.start,
        range-start g.T.Ord.cmp g.met.T.Ord.total range.start range.end less,
        sym c.part.ensures.holds ∙ sym c.has_behind.ensures ∙ c.if-has_behind.true,
      ),
      λ _. refl,
    )

pub returns-in-Some : goal.returns-in-Some
returns-in-Some g c =
    rw (← c.part.ensures.whole)
    (overlap-next g.T.Ord.cmp g.met.T.Ord.total c.args.self.now.below _ _ _ _ c.part.ensures.ascends c.part.ensures.passed
    c.part.ensures.ahead (rw c.part.ensures.whole (sym c.part.ensures.holds ∙ sym c.has_behind.ensures ∙ c.if-has_behind.false))
    c.in-Some.next.now _ (sym c.in-Some.ensures.value) (c.is_lt-in-Some.ensures ∙ ap is_lt c.cmp-in-Some.ensures))

pub returns-in-None : goal.returns-in-None
returns-in-None g c =
    rw (← c.part.ensures.whole)
    (overlap-last g.T.Ord.cmp g.met.T.Ord.total c.args.self.now.below _ _ _ _ c.part.ensures.ascends c.part.ensures.passed
    c.part.ensures.ahead (rw c.part.ensures.whole (sym c.part.ensures.holds ∙ sym c.has_behind.ensures ∙ c.if-has_behind.false))
    (sym c.in-None.ensures.value))
