use Rattle.vc_joins.proofs.answers.AskRightQuestion.ask.Goals as goal

pub returns-in-Right : goal.returns-in-Right
returns-in-Right g c = rw c.in-Right.is c.ask_right.ensures

pub returns-in-Both : goal.returns-in-Both
returns-in-Both g c = rw c.in-Both.is c.ask_right-in-Both.ensures
