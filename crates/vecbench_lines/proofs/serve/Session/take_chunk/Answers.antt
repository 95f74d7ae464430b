use Rattle.std.proofs.Common.{◌≡◌, ◌∙◌, ap, sym, [], ◌∷◌}
use Rattle.std.proofs.lemmas.Bool.{true≢false}
use Rattle.vecbench_lines.specs.declared.parts.Separator.TheVariants.{Newline}
use Rattle.vecbench_lines.specs.Parts.{parts_of_rest}
use Rattle.vecbench_lines.proofs.Chunks.{Underway-step, Underway-end, Stands-take}
use Rattle.vecbench_lines.proofs.serve.Session.take_chunk.Goals as goal

pub loop-rest-preserved : goal.loop-rest-preserved
loop-rest-preserved g c lines taken start stood =
    let under = c.loop-rest.invariant lines taken start stood in
    let cut : parts_of_rest Newline c.loop-rest.rest ≡ c.cut-in-Some.result.0.now ∷ parts_of_rest Newline c.cut-in-Some.result.1 =
    ap (λ rest. parts_of_rest Newline rest) c.in-Some.is ∙ c.cut-in-Some.ensures in
    let begins = c.end_line.ensures.begins in
    let took = c.take-in-Some.ensures in
    Underway-step lines taken c.cut-in-Some.result.0.now _ _ _ start _ _ c.loop-rest.self c.end_line.new.self _ under cut
    (c.in_ok-end_line.ensures.replies under.line under.done start under.stands.holds under.stands.progress)
    took.same.0 took.same.1
    (took.holds [] (λ _. begins.1)) (took.misses [] (λ lost. absurd (true≢false (sym begins.0 ∙ lost))))

pub returns : goal.returns
returns g c lines taken start stood =
    let took = c.take.ensures in
    let stands = Stands-take lines taken c.cut.result.0.now start _ c.args.self.now c.take.new.self stood took.same.0 took.same.1
    (took.holds taken stood.holds) (took.misses taken stood.misses) in
    Underway-end lines taken c.cut.result.0.now (parts_of_rest Newline c.cut.result.1)
    (parts_of_rest Newline c.loop-rest.rest) _ start _ _
    (c.loop-rest.invariant lines _ start stands) (ap (λ rest. parts_of_rest Newline rest) c.in_default.is) c.cut.ensures
