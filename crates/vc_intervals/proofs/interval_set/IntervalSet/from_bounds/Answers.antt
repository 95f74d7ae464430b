use Rattle.std.proofs.Common.{sym, ap₂, ◌∙◌}
use Rattle.std.specs.BTreeMap.Range.{range_contains}
use Rattle.vc_intervals.proofs.interval_set.IntervalSet.from_bounds.Goals as goal

pub returns-in_ok-between-in-Included-Excluded-clause-holds : goal.returns-in_ok-between-in-Included-Excluded-clause-holds
returns-in_ok-between-in-Included-Excluded-clause-holds g c x =
    c.in_ok-between-in-Included-Excluded.ensures.holds x
    ∙ ap₂ (λ s e. range_contains g.T.Ord.cmp s e x) (sym c.in-Included-Excluded.is-0) (sym c.in-Included-Excluded.is-1)
