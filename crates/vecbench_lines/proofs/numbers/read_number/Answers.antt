use Rattle.std.proofs.Common.{rules, ◌≡◌}
use Rattle.std.specs.Prelude.{None}
use Rattle.vecbench_lines.proofs.Reading.{number_after, number_after-refused}
use Rattle.vecbench_lines.proofs.numbers.read_number.Goals as goal

pub returns-in_err-value : goal.returns-in_err-value
returns-in_err-value c =
    let refused : number_after c.loop-rest.value c.loop-rest.rest.now ≡ None =
    number_after-refused c.loop-rest.value c.loop-rest.rest.now c.in-len1-up.len_at_least c.in_err-value.ensures in
    search (rules, refused)
