use Rattle.std.proofs.Common.{◌≤◌, ◌+◌, ◌-◌, refl, arith}
use Rattle.std.proofs.lemmas.List.{drop-set-lt, take_more_set}
use Rattle.vc_merge.proofs.Shifting.{part-at_most, part-drop}
use Rattle.vc_merge.proofs.parts.PartsState.put_left.Goals as goal

pub returns : goal.returns
returns g c =
    let s = c.args.self.now in let xs = s.list.now in let put = c.replace_at-old.ensures.new in let x = c.args.value in
    let some : 1 ≤ s.end - s.start = part-at_most xs s.start s.end 1 c.requires in
    record {
      name = refl;
      built = grind (arith, put, take_more_set xs s.built x);
      left = grind (arith, put, drop-set-lt (s.start + 1) xs s.built x, part-drop xs s.start s.end 1 some);
      right = grind (arith, put, drop-set-lt s.next xs s.built x);
    }
