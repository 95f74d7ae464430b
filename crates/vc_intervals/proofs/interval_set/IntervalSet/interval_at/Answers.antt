use Rattle.std.proofs.Common.{◌≡◌, slice_get, refl, sym, ap, ◌∙◌}
use Rattle.std.specs.Range.Bound.{bound_map}
use Rattle.std.specs.declared.ops.Bound.TheVariants.{Unbounded}
use Rattle.vc_intervals.proofs.Around.{start_behind, start_at, end_at, interval-around, start-told}
use Rattle.vc_intervals.proofs.interval_set.IntervalSet.interval_at.Goals as goal
use Rattle.vc_intervals.proofs.interval_set.IntervalSet.interval_at.Goals.{in-Some, in-None, in-Some-first, in-None-first}

pub returns-then-not-has_behind-clause-interval : goal.returns-then-not-has_behind-clause-interval
returns-then-not-has_behind-clause-interval g c =
    let around = interval-around g.T.Ord.cmp c.args.self.now.below _ _ _ c.part.ensures.passed c.part.ensures.ahead in
    rw (← c.part.ensures.whole, around, ← c.has_behind.ensures, c.if-not-has_behind.true) refl

pub returns-then-not-has_behind-clause-holds : goal.returns-then-not-has_behind-clause-holds
returns-then-not-has_behind-clause-holds g c =
    sym c.if-not-has_behind.true ∙ c.has_behind.ensures ∙ c.part.ensures.holds

pub returns-clause-interval : goal.returns-clause-interval
returns-clause-interval g c =
    let passed = c.part.result.0.now in
    let ahead = c.part.result.1.now in
    let start : bound_map (λ t. t.now) c.match-last.start ≡ start_behind Unbounded passed =
    elim c.match-last.branch [
      | in-Some w ↦ ap (bound_map (λ t. t.now)) w.start-is ∙ ap start_at w.in-Some.ensures.value ∙ start-told passed
      | in-None w ↦ ap (bound_map (λ t. t.now)) w.start-is ∙ ap start_at w.in-None.ensures.value ∙ start-told passed
    ] in
    let end : bound_map (λ t. t.now) c.match-first.end ≡ end_at (slice_get ahead 0) =
    elim c.match-first.branch [
      | in-Some-first w ↦ ap (bound_map (λ t. t.now)) w.end-is ∙ ap end_at w.in-Some-first.ensures.value
      | in-None-first w ↦ ap (bound_map (λ t. t.now)) w.end-is ∙ ap end_at w.in-None-first.ensures.value
    ] in
    let around = interval-around g.T.Ord.cmp c.args.self.now.below _ _ _ c.part.ensures.passed c.part.ensures.ahead in
    rw (← c.part.ensures.whole, around, ← c.has_behind.ensures, c.if-not-has_behind.false, start, end) refl

pub returns-clause-holds : goal.returns-clause-holds
returns-clause-holds g c = sym c.if-not-has_behind.false ∙ c.has_behind.ensures ∙ c.part.ensures.holds
