use Rattle.std.proofs.Common.{◌≤◌, ◌-◌, refl, arith}
use Rattle.std.proofs.lemmas.List.{take-set-le, drop-set-lt, drop-set}
use Rattle.vc_merge.proofs.Shifting.{part-at_most}
use Rattle.vc_merge.proofs.parts.PartsState.replace_left.Goals as goal

pub returns : goal.returns
returns g c =
    let s = c.args.self.now in let xs = s.list.now in let x = c.args.value in let put = c.replace_at.ensures.new in
    let old = c.replace_at.ensures.old in let some : 1 ≤ s.end - s.start = part-at_most xs s.start s.end 1 c.requires in
    record {
      first = grind arith;
      others = record {
        name = refl;
        built = grind (arith, put, take-set-le s.built xs s.start x s.hole);
        left = grind (arith, put, drop-set xs s.start x);
        right = grind (arith, put, drop-set-lt s.next xs s.start x);
      };
    }
