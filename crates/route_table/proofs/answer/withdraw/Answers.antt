use Rattle.std.proofs.Common.{sym, ◌∙◌}
use Rattle.route_table.specs.Prefix.{prefix_bits}
use Rattle.route_table.specs.Routes.{hop_at}
use Rattle.route_table.proofs.Decided.{absent-stays}
use Rattle.route_table.proofs.answer.withdraw.Goals as goal

pub returns-else-branch-clause-err : goal.returns-else-branch-clause-err
returns-else-branch-clause-err c =
    absent-stays (hop_at c.args.table.now) (hop_at c.withdraw.new.self) (prefix_bits c.args.prefix.now)
    (sym c.in_ok-withdraw.ensures.had ∙ c.if-branch.false) c.in_ok-withdraw.ensures.ok
