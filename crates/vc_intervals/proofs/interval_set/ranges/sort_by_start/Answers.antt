use Rattle.std.proofs.Common.{rules, tests}
use Rattle.std.proofs.lemmas.Fn.{always_returns_same}
use Rattle.std.specs.Ordering.{is_lt}
use Rattle.vc_intervals.proofs.Sorted.{weak-by}
use Rattle.vc_intervals.proofs.interval_set.ranges.sort_by_start.Goals as goal

pub returns-clause-sorted : goal.returns-clause-sorted
returns-clause-sorted g c =
    c.sort_unstable_by.ensures.sorted (λ a b. is_lt (g.T.Ord.cmp a.start b.start))
    (weak-by g.T.Ord.cmp g.met.T.Ord.total (λ r. r.start)) (always_returns_same _ _ _ (λ a r q k. search (rules, tests)))
