use Rattle.std.proofs.Common.{◌||◌, length, ap, ◌∙◌}
use Rattle.std.specs.Int.{from_bool}
use Rattle.vc_intervals.proofs.Behind.{listed-count}
use Rattle.vc_intervals.proofs.interval_set.iteration.IntervalSetIterExactSizeIterator.len.Goals as goal

pub returns-clause-value : goal.returns-clause-value
returns-clause-value g c =
    let begun = c.self.inside.has_begun in
    listed-count begun c.self.inside.boundaries.now c.from.result
    (c.from.ensures ∙ ap (λ b. from_bool (begun || b)) c.is_odd.ensures)
    ∙ ap length c.self.view_is
