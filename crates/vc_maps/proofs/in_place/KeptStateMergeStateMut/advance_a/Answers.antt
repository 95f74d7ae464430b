use Rattle.std.proofs.Common.{refl}
use Rattle.vc_merge.proofs.Shifting.{part-at_most, part-drop}
use Rattle.vc_maps.proofs.in_place.KeptStateMergeStateMut.advance_a.Goals as goal

pub returns-clause-takes : goal.returns-clause-takes
returns-clause-takes g c = λ _.
    let s = c.args.self.now in let xs = s.list.now in let n = c.args.n in (
      part-drop xs s.spans.start s.spans.end n
          (part-at_most xs s.spans.start s.spans.end n c.requires.within),
      refl,
      c.requires.ready,
    )
