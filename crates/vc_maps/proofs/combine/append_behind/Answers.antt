use Rattle.std.proofs.Common.{refl}
use Rattle.vc_merge.proofs.Parted.{is-parted}
use Rattle.vc_maps.proofs.combine.append_behind.Goals as goal

pub returns-clause-front : goal.returns-clause-front
returns-clause-front g c =
    (is-parted _ refl c.len-next.ensures.value c.in_ok-open_gap.ensures.front
    c.in_ok-open_gap.ensures.gap c.append_moved.ensures refl).left

pub returns-clause-behind : goal.returns-clause-behind
returns-clause-behind g c =
    (is-parted _ refl c.len-next.ensures.value c.in_ok-open_gap.ensures.front
    c.in_ok-open_gap.ensures.gap c.append_moved.ensures refl).right
