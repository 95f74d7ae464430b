use Rattle.std.proofs.Common.{rules, ◌≡◌, sym, subst, ◌<◌, true, ◌++◌, length}
use Rattle.vecbench_lines.specs.Served.{Progress}
use Rattle.vecbench_lines.proofs.Replying.{on-ok}
use Rattle.vecbench_lines.proofs.Joining.{Progress-kept, unended-some}
use Rattle.vecbench_lines.proofs.serve.Session.finish.Goals as goal

pub returns : goal.returns
returns g c lines taken start stood =
    let within : c.is_within_line.result ≡ true = search (rules, c.if-not-is_within_line.false) in
    let some : 0 < length taken = (c.is_within_line.ensures taken stood.holds stood.misses).0 within in
    let answered = c.in_ok-answer_taken.ensures.replies taken lines start stood.holds stood.progress in
    on-ok c.flush-2.result (subst (λ last. Progress (lines ++ last) start
    (g.O.Write.contents c.flush-2.new.self) c.answer_taken.new.self) (sym (unended-some taken some))
    (Progress-kept _ start _ _ c.answer_taken.new.self c.flush-2.ensures.bytes answered))
