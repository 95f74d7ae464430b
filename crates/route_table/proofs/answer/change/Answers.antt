use Rattle.std.proofs.Common.{◌≡◌, cond, List, Bool, Some, None, Result, Ok, Err, OnOk, OnErr, ap, sym, ◌∙◌}
use Rattle.route_table.specs.Prefix.{prefix_bits, same_prefix}
use Rattle.route_table.specs.Routes.{routes_after, routes_with}
use Rattle.route_table.specs.declared.line.Line.TheVariants.{Add, Withdraw}
use Rattle.route_table.proofs.answer.change.Goals as goal

-- what follows from a fact on an outcome, where it is of that kind
on-ok : {E P Q : Type 0} (r : Result (Unit {0}) E) → (P → Q) → OnOk r P → OnOk r Q
on-ok (Ok u) f h = f h
on-ok (Err e) f h = tt

on-err : {E P Q : Type 0} (r : Result (Unit {0}) E) → (P → Q) → OnErr r P → OnErr r Q
on-err (Ok u) f h = tt
on-err (Err e) f h = f h

pub returns-in-Add-clause-ok : goal.returns-in-Add-clause-ok
returns-in-Add-clause-ok c lines after =
    on-ok c.add.result (λ done other.
    done other
    ∙ ap (λ o. cond (same_prefix (prefix_bits c.in-Add.prefix) other) (Some c.in-Add.hop.now) o) (after other)
    ∙ ap (λ l. routes_with l (routes_after lines) other) (sym c.in-Add.is)) c.add.ensures.ok

pub returns-in-Add-clause-err : goal.returns-in-Add-clause-err
returns-in-Add-clause-err c lines after =
    on-err c.add.result (λ same other. same other ∙ after other) c.add.ensures.err

pub returns-in-Withdraw-clause-ok : goal.returns-in-Withdraw-clause-ok
returns-in-Withdraw-clause-ok c lines after =
    on-ok c.withdraw.result (λ done other.
    done other
    ∙ ap (λ o. cond (same_prefix (prefix_bits c.in-Withdraw.prefix) other) None o) (after other)
    ∙ ap (λ l. routes_with l (routes_after lines) other) (sym c.in-Withdraw.is)) c.withdraw.ensures.ok

pub returns-in-Withdraw-clause-err : goal.returns-in-Withdraw-clause-err
returns-in-Withdraw-clause-err c lines after =
    on-err c.withdraw.result (λ same other. same other ∙ after other) c.withdraw.ensures.err
