use Rattle.std.proofs.Common.{◌||◌, ap, ◌∙◌}
use Rattle.vc_merge.proofs.Parted.{on-ok}
use Rattle.vc_intervals.specs.Boundaries.{holds}
use Rattle.vc_intervals.proofs.interval_set.IntervalSet.insert.Goals as goal

pub returns-clause-holds : goal.returns-clause-holds
returns-clause-holds g c =
    on-ok c.union_with.result _ _ (λ made x. made.at x ∙ ap (λ b. holds g.T.Ord.cmp c.args.self.now x || b)
    (c.in_ok-added.ensures.holds x)) c.union_with.ensures.ok
