use Rattle.vc_sets.proofs.Collected.{extended-next}
use Rattle.vc_sets.proofs.vec_set.collecting.VecSetExtend.extend.Goals as goal

pub loop-item-preserved : goal.loop-item-preserved
loop-item-preserved g c =
    extended-next g.T.Ord.cmp _ _ _ _ c.in-Some.item c.loop-item.invariant c.in_ok-insert.ensures.members
    c.in_ok-insert.ensures.kept
