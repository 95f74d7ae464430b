use Rattle.std.proofs.Common.{refl}
use Rattle.vc_joins.proofs.in_place.AskInnerTurn.turn.Goals as goal

pub returns-in-Both : goal.returns-in-Both
returns-in-Both g c =
    let p = c.in-Both in
    rw p.is (record { key = p.key; value = p.value; other = p.other; shows = refl; says = c.call.ensures })
