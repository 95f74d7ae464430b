use Rattle.vc_joins.proofs.in_place.AskLeftTurn.turn.Goals as goal

pub returns-in-Left : goal.returns-in-Left
returns-in-Left g c = rw c.in-Left.is c.turn_left.ensures

pub returns-in-Both : goal.returns-in-Both
returns-in-Both g c = rw c.in-Both.is c.turn_left-in-Both.ensures
