use Rattle.std.proofs.Common.{refl}
use Rattle.vc_merge.proofs.Shifting.{up-built}
use Rattle.vc_merge.proofs.parts.PartsState.lift.Goals as goal

pub returns : goal.returns
returns g c =
    let s = c.args.self.now in let moved = c.move_up.ensures in
    record {
      name = refl;
      built = up-built s.list.now c.move_up.new.list s.built s.start s.end s.next s.hole s.left s.gap moved;
      left = moved.moved;
      right = moved.rest;
    }
