use Rattle.std.proofs.Common.{◌∷◌, [], ◌∙◌, length, length-append, arith}
use Rattle.std.proofs.lemmas.List.{take-append-le}
use Rattle.vc_merge.proofs.Extending.{extends-more, room-push}
use Rattle.vc_merge.proofs.states.append_each.Goals as goal

pub loop-item-preserved : goal.loop-item-preserved
loop-item-preserved g c =
    let old = c.args.list.now.items in let mid = c.loop-item.list.items in let more = c.in_ok-clone.field-0 ∷ [] in
    let pushed = c.push_reserved.ensures.items in
    record {
      front = rw pushed (take-append-le (length old) mid more c.loop-item.invariant.behind ∙ c.loop-item.invariant.front);
      behind = rw pushed (omega (arith, c.loop-item.invariant.behind, length-append mid more));
      extended = extends-more g.T.Clone.is_clone _ _ _ _ c.loop-item-test.true c.item-item.is
          c.in_ok-clone.ensures.cases pushed c.loop-item.invariant.extended;
      room = room-push _ _ pushed c.push_reserved.ensures.capacity c.loop-item-test.true c.loop-item.invariant.room;
    }
