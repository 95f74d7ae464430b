use Rattle.std.proofs.Common.{take, drop, sym}
use Rattle.std.proofs.lemmas.List.{take-append-drop}
use Rattle.vc_merge.proofs.ListLemmas.{ascends-append}
use Rattle.vc_intervals.proofs.Toggled.{toggled-cut}
use Rattle.vc_intervals.proofs.interval_set.IntervalSet.part.Goals as goal

pub returns-clause-passed : goal.returns-clause-passed
returns-clause-passed g c = rw (c.split_at.ensures.front, c.boundaries.ensures.boundaries) c.reached.ensures.pass

pub returns-clause-ahead : goal.returns-clause-ahead
returns-clause-ahead g c = rw (c.split_at.ensures.back, c.boundaries.ensures.boundaries) c.reached.ensures.fail

pub returns-clause-ascends : goal.returns-clause-ascends
returns-clause-ascends g c =
    let k = c.reached.result in
    let boundaries = c.args.self.now.boundaries in
    rw (c.split_at.ensures.back, c.boundaries.ensures.boundaries)
    (ascends-append g.T.Ord.cmp (take k boundaries) (drop k boundaries) (rw take-append-drop c.boundaries.ensures.ascends))

pub returns-clause-holds : goal.returns-clause-holds
returns-clause-holds g c =
    let set = c.args.self.now in
    rw c.split_at.ensures.front_len (sym (toggled-cut g.T.Ord.cmp set.below set.boundaries c.reached.result c.args.value.now c.reached.ensures))
