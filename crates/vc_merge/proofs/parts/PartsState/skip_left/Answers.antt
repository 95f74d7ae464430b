use Rattle.std.proofs.Common.{refl}
use Rattle.vc_merge.proofs.Shifting.{part-at_most, part-drop}
use Rattle.vc_merge.proofs.parts.PartsState.skip_left.Goals as goal

pub returns : goal.returns
returns g c =
    let s = c.args.self.now in let xs = s.list.now in let n = c.args.n in
    record {
      name = refl;
      built = refl;
      left = part-drop xs s.start s.end n (part-at_most xs s.start s.end n c.requires);
      right = refl;
    }
