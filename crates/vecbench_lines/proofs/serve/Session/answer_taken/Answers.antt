use Rattle.std.proofs.Common.{◌∙◌, ap, sym, refl, subst, true, false, ◌+◌}
use Rattle.vecbench_lines.specs.Answers.{AnswersWords}
use Rattle.vecbench_lines.specs.Fault.{fault_line}
use Rattle.vecbench_lines.specs.Parts.{words_of}
use Rattle.vecbench_lines.specs.Served.{counted}
use Rattle.vecbench_lines.proofs.Replying.{Progress-snoc, on_ok-map, or-false, or-true}
use Rattle.vecbench_lines.proofs.serve.Session.answer_taken.Goals as goal

pub returns-in-Ok-clause-replies : goal.returns-in-Ok-clause-replies
returns-in-Ok-clause-replies g c taken lines start holds before =
    let made = c.make_answer-result.ensures in
    let says : AnswersWords (words_of taken) c.as_bytes.result.now =
    subst (λ text. AnswersWords (words_of taken) text) (sym c.as_bytes.ensures.value) (c.in-Ok.ensures.answers taken holds) in
    on_ok-map c.write_all.result (λ written.
    Progress-snoc lines start _ _ c.args.self.now _ taken c.as_bytes.result.now false before
    (c.in-Ok.ensures.judged taken holds, says) written
    (made.same.1 ∙ sym (or-false c.args.self.now.has_fault))
    (c.saturating_add-self.ensures ∙ ap (λ m. counted (m + 1)) made.same.0)) c.write_all.ensures.bytes

pub returns-in-Err-clause-replies : goal.returns-in-Err-clause-replies
returns-in-Err-clause-replies g c taken lines start holds before =
    let made = c.make_answer-result.ensures in
    on_ok-map c.write.result (λ written.
    Progress-snoc lines start _ _ c.args.self.now _ taken (fault_line c.saturating_add-self.result c.in-Err.fault) true before
    (c.in-Err.fault, c.in-Err.ensures.judged taken holds, refl) written
    (sym (or-true c.args.self.now.has_fault))
    (c.saturating_add-self.ensures ∙ ap (λ m. counted (m + 1)) made.same.0)) c.write.ensures
