use Rattle.std.proofs.Common.{refl, sym, ◌∙◌, drop-drop}
use Rattle.vc_merge.proofs.Shifting.{trade-left}
use Rattle.vc_merge.proofs.parts.PartsState.trade.Goals as goal

pub returns : goal.returns
returns g c =
    let s = c.args.self.now in let n = c.args.n in let traded = c.trade_runs.ensures in
    record {
      name = refl;
      built = traded.front;
      left = trade-left s.list.now c.trade_runs.new.list s.built s.start s.end s.next s.hole s.left s.gap n
          c.requires.hole traded;
      right = traded.rest ∙ sym (drop-drop n s.next s.list.now);
    }
