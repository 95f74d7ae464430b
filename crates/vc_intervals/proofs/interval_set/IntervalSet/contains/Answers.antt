use Rattle.std.proofs.Common.{sym, ◌∙◌}
use Rattle.vc_intervals.proofs.Toggled.{toggled-cut}
use Rattle.vc_intervals.proofs.interval_set.IntervalSet.contains.Goals as goal

pub returns : goal.returns
returns g c =
    let set = c.args.self.now in
    c.has_behind.ensures ∙ sym (toggled-cut g.T.Ord.cmp set.below set.boundaries c.reached.result c.args.value.now c.reached.ensures)
