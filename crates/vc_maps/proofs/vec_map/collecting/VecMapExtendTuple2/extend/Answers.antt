use Rattle.std.proofs.Common.{arith}
use Rattle.vc_maps.specs.Collecting.{IsExtended}
use Rattle.vc_maps.proofs.Collected.{extended-next}
use Rattle.vc_maps.proofs.vec_map.collecting.VecMapExtendTuple2.extend.Goals as goal

pub loop-pair-preserved : goal.loop-pair-preserved
loop-pair-preserved g c =
    let put = c.in_ok-_old.ensures in
    extended-next g.K.Ord.cmp _ _ _ _ c.in-Some.pair.0 c.in-Some.pair.1 c.loop-pair.invariant put.values put.entries

pub loop-pair-preserved-in_ok-_old : goal.loop-pair-preserved-in_ok-_old
loop-pair-preserved-in_ok-_old g c =
    let put = c.in_ok-_old.ensures in
    extended-next g.K.Ord.cmp _ _ _ _ c.in-Some.pair.0 c.in-Some.pair.1 c.loop-pair.invariant put.values put.entries

-- the pair that is refused changes nothing
pub returns-in_err-_old : goal.returns-in_err-_old
returns-in_err-_old g c =
    let kept : IsExtended g.K.Ord.cmp c.args.self.now c.loop-pair.yielded c.insert.new.self =
    rw c.in_err-_old.ensures.err c.loop-pair.invariant in
    record {
      ran = (
        c.into_iter-pair-iterator.result,
        c.loop-pair.yielded,
        c.into_iter-pair-iterator.ensures.into_iter_gives,
        kept,
        grind (arith, c.from_residual.ensures.0, c.loop-pair.yielded_by),
      );
    }
