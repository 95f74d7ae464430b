use Rattle.vc_joins.proofs.answers.AskLeftQuestion.ask.Goals as goal

pub returns-in-Left : goal.returns-in-Left
returns-in-Left g c = rw c.in-Left.is c.ask_left.ensures

pub returns-in-Both : goal.returns-in-Both
returns-in-Both g c = rw c.in-Both.is c.ask_left-in-Both.ensures
