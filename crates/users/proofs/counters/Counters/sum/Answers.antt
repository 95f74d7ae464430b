use Rattle.std.proofs.Common.{rules, ◌+◌}
use Rattle.std.proofs.lemmas.Bool.{eqb-true}
use Rattle.users.specs.Counts.{bounded}
use Rattle.users.proofs.counters.Counters.sum.Goals as goal

pub returns : goal.returns
returns c name = eqb-true _ _ (c.combined_is_pointwise.ensures (λ x y. bounded (x + y))
    (λ x y v h. search rules) _ _ _ c.in_ok-counts.ensures name)
