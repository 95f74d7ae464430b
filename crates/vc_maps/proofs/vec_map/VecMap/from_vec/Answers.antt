use Rattle.std.proofs.Common.{◌<◌, length, ap, arith, ◌∙◌}
use Rattle.std.specs.Vec.Iter.{into_iter_items}
use Rattle.vc_maps.proofs.Collected.{vec-gives_more}
use Rattle.vc_maps.proofs.vec_map.VecMap.from_vec.Goals as goal

pub returns-clause-pairs : goal.returns-clause-pairs
returns-clause-pairs g c =
    let run = c.in_ok-pairs.ensures.runs in
    let all = (c.into_iter.ensures.runs run.0 run.0.seen).4 run.2 in
    run.3 ∙ (rw run.1 at all) ∙ c.into_iter.ensures.rest

pub invariant_of-result : goal.invariant_of-result
invariant_of-result g c = rw (returns-clause-pairs g c) c.requires

pub returns-in_err-pairs-clause-room : goal.returns-in_err-pairs-clause-room
returns-in_err-pairs-clause-room g c = λ h.
    let more : g.row.N < length (into_iter_items c.into_iter.result) = vec-gives_more _ _ c.in_err-pairs.ensures.room in
    absurd (omega (arith, h, more, ap length c.into_iter.ensures.rest))
