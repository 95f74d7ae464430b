use Rattle.vc_merge.proofs.Shifting.{Turns-turned}
use Rattle.vc_merge.proofs.parts.turn_runs.Goals as goal

pub returns : goal.returns
returns g c =
    Turns-turned c.args.list.now c.rotate_left.new.self c.args.at c.args.next c.args.n c.requires.order
    c.requires.within c.rotate_left.ensures.after
