use Rattle.vc_merge.proofs.Cutting.{cut-one}
use Rattle.vc_merge.proofs.search.ranges.count_passing.Goals as goal

pub returns : goal.returns
returns g c =
    rw c.from.ensures (cut-one _ c.args.with_equal c.stands_before.result _ _ _ c.index-one-0.result c.compare-order.result
    c.requires c.nearest-start.ensures.rest c.nearest-start.ensures.one c.index-one-0.is c.compare-order.ensures.value
    c.stands_before.ensures)
