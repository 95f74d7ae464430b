use Rattle.std.proofs.Common.{refl, arith}
use Rattle.std.proofs.lemmas.List.{take-set-le, drop-set, length-drop}
use Rattle.vc_merge.proofs.Shifting.{part-before}
use Rattle.vc_merge.proofs.parts.PartsState.replace_right.Goals as goal

pub returns-clause-others : goal.returns-clause-others
returns-clause-others g c =
    let s = c.args.self.now in let xs = s.list.now in let x = c.args.value in let put = c.replace_at.ensures.new in
    record {
      name = refl;
      built = grind (arith, put, take-set-le s.built xs s.next x);
      left = grind (arith, put, part-before xs s.start s.end s.next x);
      right = grind (arith, put, c.replace_at.ensures.old, drop-set xs s.next x, length-drop s.next xs);
    }
