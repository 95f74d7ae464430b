use Rattle.std.proofs.Common.{refl}
use Rattle.vc_merge.proofs.Shifting.{part-at_most, down}
use Rattle.vc_merge.proofs.parts.PartsState.take_left.Goals as goal

pub returns : goal.returns
returns g c =
    let s = c.args.self.now in let xs = s.list.now in let n = c.args.n in
    let moved = down xs c.move_down.new.list s.built s.start s.end s.next s.hole s.left s.gap n
    (part-at_most xs s.start s.end n c.requires) c.move_down.ensures in
    record { name = refl; built = moved.0; left = moved.1; right = moved.2 }
