-- Each swap moves one more element down.
use Rattle.std.proofs.Common.{◌+◌, ◌<◌, length, arith}
use Rattle.vc_merge.proofs.MovesDownLemmas.{MovesDown-none, MovesDown-next}
use Rattle.vc_tree_edits.proofs.lessening.move_down.Goals as goal

pub loop-moved-init : goal.loop-moved-init
loop-moved-init g c = MovesDown-none c.args.list.now c.args.kept c.args.at

pub loop-moved-preserved : goal.loop-moved-preserved
loop-moved-preserved g c =
    let within : c.args.at + c.loop-moved.moved < length c.args.list.now = let all = c.requires.within in omega arith in
    MovesDown-next c.args.list.now c.loop-moved.list c.swap.new.self c.args.kept c.args.at c.loop-moved.moved c.requires.order
    within c.swap.ensures.len c.loop-moved.invariant c.swap.ensures.by_index
