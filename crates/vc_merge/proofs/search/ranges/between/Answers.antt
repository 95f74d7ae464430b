use Rattle.std.proofs.Common.{true, false}
use Rattle.vc_merge.specs.Cuts.{is_in_front}
use Rattle.vc_merge.proofs.Cutting.{cuts-filter}
use Rattle.vc_merge.proofs.search.ranges.between.Goals as goal

pub returns : goal.returns
returns g c =
    cuts-filter (is_in_front g.S.Sought.side false c.args.start.now) (is_in_front g.S.Sought.side true c.args.end.now)
    c.args.list.now _ _ _ c.cut_at.ensures c.cut_at-to.ensures c.min-from.ensures
