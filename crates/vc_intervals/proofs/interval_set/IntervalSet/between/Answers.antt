use Rattle.std.specs.List.Sorted.{IsStrictlySortedBy}
use Rattle.vc_intervals.proofs.Ranged.{pair-contains, less-told}
use Rattle.vc_intervals.proofs.interval_set.IntervalSet.between.Goals as goal

pub invariant_of-result : goal.invariant_of-result
unfolding IsStrictlySortedBy
invariant_of-result g c =
    let less = less-told c.cmp.ensures c.is_lt.ensures c.if-not-is_lt.false in
    rw (c.push_reserved-2.ensures.items, c.push_reserved.ensures.items, c.in_ok-boundaries.ensures.items) ((less, tt), (tt, tt))

pub returns-clause-holds : goal.returns-clause-holds
returns-clause-holds g c x =
    let less = less-told c.cmp.ensures c.is_lt.ensures c.if-not-is_lt.false in
    rw (c.push_reserved-2.ensures.items, c.push_reserved.ensures.items, c.in_ok-boundaries.ensures.items)
    (pair-contains g.T.Ord.cmp g.met.T.Ord.total c.args.least c.args.end x less)
