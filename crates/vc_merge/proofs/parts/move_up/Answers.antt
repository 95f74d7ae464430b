use Rattle.vc_merge.proofs.Shifting.{MovesUp-turned, MovesUp-swapped}
use Rattle.vc_merge.proofs.parts.move_up.Goals as goal

pub returns-then-len-next : goal.returns-then-len-next
returns-then-len-next g c =
    MovesUp-turned c.args.list.now c.rotate_left.new.self c.args.start c.args.end c.args.next c.requires.order
    c.requires.gap c.requires.within c.rotate_left.ensures.after

pub returns : goal.returns
returns g c =
    let halves = c.split_at_mut-front.ensures in let swapped = c.swap_with_slice.ensures in
    MovesUp-swapped c.args.list.now c.split_at_mut-front.result.0.now c.split_at_mut-front.result.1.now
    c.swap_with_slice.new.self c.swap_with_slice.new.other
    c.args.start c.args.end c.args.next c.requires.order c.requires.gap c.if-len-next.false c.requires.within
    halves.front halves.back swapped.after swapped.other_after
