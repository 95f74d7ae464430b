use Rattle.std.proofs.Common.{refl, sym, ◌∙◌, drop-drop}
use Rattle.vc_merge.proofs.Shifting.{turn-left}
use Rattle.vc_merge.proofs.parts.PartsState.turn.Goals as goal

pub returns : goal.returns
returns g c =
    let s = c.args.self.now in let n = c.args.n in let turned = c.turn_runs.ensures in
    record {
      name = refl;
      built = turned.front;
      left = turn-left s.list.now c.turn_runs.new.list s.built s.start s.end s.next s.hole s.left s.gap n turned;
      right = turned.rest ∙ sym (drop-drop n s.next s.list.now);
    }
