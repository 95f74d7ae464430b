use Rattle.vc_merge.proofs.Shifting.{Trades-swapped}
use Rattle.vc_merge.proofs.parts.trade_runs.Goals as goal

pub returns : goal.returns
returns g c =
    let halves = c.split_at_mut-front.ensures in let swapped = c.swap_with_slice.ensures in
    Trades-swapped c.args.list.now c.split_at_mut-front.result.0.now c.split_at_mut-front.result.1.now
    c.swap_with_slice.new.self c.swap_with_slice.new.other
    c.args.at c.args.next c.args.n c.requires.apart c.requires.within halves.front halves.back swapped.after swapped.other_after
