use Rattle.std.proofs.Common.{arith}
use Rattle.vc_merge.proofs.Extending.{come-more}
use Rattle.vc_merge.proofs.states.many_clones.Goals as goal

pub loop-item-preserved : goal.loop-item-preserved
loop-item-preserved g c = record {
  come = come-more g.T.Clone.is_clone _ c.loop-item.list.items _ _ _ _ c.loop-item-test.true c.item-item.is
      c.in_ok-clone.ensures.cases c.push_reserved.ensures.items c.loop-item.invariant.come;
  len = omega (arith, c.push_reserved.ensures.len, c.loop-item.invariant.len);
  room = omega (arith, c.push_reserved.ensures.capacity, c.loop-item.invariant.room);
}
