use Rattle.std.proofs.Common.{rules, ◌≡◌}
use Rattle.vecbench_lines.specs.Judged.{is_ascending}
use Rattle.vecbench_lines.proofs.Ascending.{is_ascending-answer}
use Rattle.vecbench_lines.proofs.numbers.read_set.Goals as goal

pub returns-then-not-ascends-clause-judged : goal.returns-then-not-ascends-clause-judged
returns-then-not-ascends-clause-judged c =
    let judged : is_ascending c.as_slice.result.now ≡ c.ascends.result =
    is_ascending-answer c.as_slice.result.now c.ascends.result c.ascends.ensures in
    search (rules, judged)

pub returns-clause-judged : goal.returns-clause-judged
returns-clause-judged c =
    let judged : is_ascending c.as_slice.result.now ≡ c.ascends.result =
    is_ascending-answer c.as_slice.result.now c.ascends.result c.ascends.ensures in
    search (rules, judged)
