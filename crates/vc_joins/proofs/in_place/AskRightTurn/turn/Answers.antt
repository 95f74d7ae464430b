use Rattle.std.proofs.Common.{Some, None, refl}
use Rattle.vc_joins.proofs.in_place.AskRightTurn.turn.Goals as goal

pub returns-in-Right : goal.returns-in-Right
returns-in-Right g c =
    let p = c.in-Right in
    rw p.is (record { key = p.key; value = None; other = p.other; shows = refl; says = c.call.ensures })

pub returns-in-Both : goal.returns-in-Both
returns-in-Both g c =
    let p = c.in-Both in
    rw p.is (record { key = p.key; value = Some p.value; other = p.other; shows = refl; says = c.call-in-Both.ensures })
