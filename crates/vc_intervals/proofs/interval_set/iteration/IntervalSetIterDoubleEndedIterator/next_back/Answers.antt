use Rattle.std.proofs.Common.{length, ap, length-append, arith}
use Rattle.vc_intervals.proofs.Behind.{last-open, last-closed}
use Rattle.vc_intervals.proofs.interval_set.iteration.IntervalSetIterDoubleEndedIterator.next_back.Goals as goal
use Rattle.vc_intervals.proofs.interval_set.iteration.IntervalSetIterDoubleEndedIterator.next_back.Goals.{then-self-is_odd, else-self-is_odd+in_ok-last}

pub returns-clause-steps : goal.returns-clause-steps
returns-clause-steps g c =
    let ts = c.self.inside.boundaries.now in
    let begun = c.self.inside.has_begun in
    let rest = c.in-Some.rest.now in
    let start = c.in-Some.start.now in
    elim c.if-self-is_odd.branch [
      | then-self-is_odd w ↦
          rw (← c.self.view_is, w.end-is, w.self-inside-is)
          (last-open begun c.is_odd.result ts rest start c.is_odd.ensures w.if-self-is_odd.true
          (rw w.self-inside-is at c.in-Some.ensures.cases.0))
      | else-self-is_odd+in_ok-last w ↦
          rw (← c.self.view_is, w.end-is, w.self-inside-is)
          (last-closed begun c.is_odd.result ts w.in_ok-last.rest.now rest start w.in_ok-last.last.now c.is_odd.ensures
          w.if-self-is_odd.false w.in_ok-last.ensures.cases.0 (rw w.self-inside-is at c.in-Some.ensures.cases.0))
    ]

pub returns-clause-goes : goal.returns-clause-goes
returns-clause-goes g c =
    let steps = returns-clause-steps g c in
    record { on = λ _. (tt, tt, omega (arith, simp length-append at (ap length steps))); keeps = tt; rests = λ _. tt }
