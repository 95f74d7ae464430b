use Rattle.std.proofs.Common.{◌≡◌, ℕ, rules, max, ◌∙◌}
use Rattle.std.proofs.lemmas.Bool.{eqb-true}
use Rattle.std.specs.Ordering.{nat_cmp, max_by_ordering}
use Rattle.users.proofs.counters.Counters.greater.Goals as goal

-- the greater of two counts by their order is the greater number
greater-is-max : (x y v : ℕ) → v ≡ max_by_ordering (nat_cmp x y) x y → v ≡ max x y
greater-is-max x y v h = search rules

pub returns : goal.returns
returns c name =
    let made = c.in_ok-counts.ensures.values name in
    eqb-true _ _ (c.standing_is_at.ensures.equal _ name made.0 made.2) ∙ greater-is-max _ _ _ made.1
