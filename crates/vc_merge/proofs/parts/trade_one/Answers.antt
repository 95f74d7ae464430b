use Rattle.vc_merge.proofs.Shifting.{Trades-one}
use Rattle.vc_merge.proofs.parts.trade_one.Goals as goal

pub returns : goal.returns
returns g c =
    Trades-one c.args.list.now c.swap.new.self c.args.at c.args.next c.requires.apart c.requires.within c.swap.ensures.len
    c.swap.ensures.by_index
