use Rattle.std.proofs.Common.{rules, ◌*◌}
use Rattle.std.proofs.lemmas.Bool.{eqb-true}
use Rattle.users.specs.Counts.{bounded}
use Rattle.users.proofs.counters.Counters.scaled.Goals as goal

pub returns : goal.returns
returns c name = eqb-true _ _ (c.mapped_is_pointwise.ensures (λ x. bounded (x * c.args.factor))
    (λ x v h. search rules) _ _ c.in_ok-counts.ensures name)
