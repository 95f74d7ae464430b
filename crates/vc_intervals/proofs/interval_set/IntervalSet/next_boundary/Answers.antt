use Rattle.std.proofs.Common.{◌≡◌, not, sym, ◌∙◌}
use Rattle.std.specs.declared.cmp.Ordering.TheVariants.{Less}
use Rattle.vc_intervals.specs.Boundaries.{toggled}
use Rattle.vc_intervals.proofs.Around.{if-shown, if-each, next-above, same-until, toggled-next}
use Rattle.vc_intervals.proofs.interval_set.IntervalSet.next_boundary.Goals as goal

pub returns-clause-boundary : goal.returns-clause-boundary
returns-clause-boundary g c =
    c.first.ensures.value
    ∙ rw (← c.part.ensures.whole) (sym (next-above g.T.Ord.cmp g.met.T.Ord.total _ _ _ c.part.ensures.passed c.part.ensures.ahead))

pub returns-clause-until : goal.returns-clause-until
returns-clause-until g c x e h =
    rw (← c.part.ensures.whole)
    (same-until g.T.Ord.cmp g.met.T.Ord.total c.args.self.now.below _ _ _ x c.part.ensures.ascends c.part.ensures.passed
    c.part.ensures.ahead e (if-shown (λ t. g.T.Ord.cmp x t ≡ Less) c.first.result _ c.first.ensures.value h))

pub returns-clause-boundaries : goal.returns-clause-boundaries
returns-clause-boundaries g c =
    let has = toggled g.T.Ord.cmp c.args.self.now.below c.args.self.now.boundaries in
    if-each (λ t. has t ≡ not (has c.args.value.now)) c.first.result _ c.first.ensures.value
    (λ t e. rw (← c.part.ensures.whole) (toggled-next g.T.Ord.cmp g.met.T.Ord.total c.args.self.now.below _ _ _ t c.part.ensures.ascends
    c.part.ensures.passed c.part.ensures.ahead e))
