use Rattle.std.proofs.Common.{◌+◌, refl, drop-drop, arith}
use Rattle.std.proofs.lemmas.List.{drop-set-lt, take_more_set}
use Rattle.vc_merge.proofs.parts.PartsState.put_in_hole.Goals as goal

pub returns : goal.returns
returns g c =
    let s = c.args.self.now in let xs = s.list.now in let put = c.replace_at-old.ensures.new in let x = c.args.value in
    let hole = c.requires.hole in
    record {
      name = refl;
      built = grind (arith, put, take_more_set xs s.built x);
      left = grind (arith, put, drop-set-lt s.start xs s.built x);
      right = grind (arith, put, drop-set-lt (s.next + 1) xs s.built x, drop-drop 1 s.next xs);
    }
