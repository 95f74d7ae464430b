use Rattle.std.proofs.Common.{refl, sym, ◌∙◌}
use Rattle.vc_sets.specs.Select.{keeps}
use Rattle.vc_intervals.proofs.Sought.{walk-tells}
use Rattle.vc_intervals.proofs.Tested.{tells-all}
use Rattle.vc_intervals.proofs.witness.has_witness.Goals as goal

pub returns-clause-found : goal.returns-clause-found
returns-clause-found g c =
    let still = sym c.says.ensures ∙ c.if-says.false in
    tells-all _ _ c.merge-never_refused.new.state.found still
    (walk-tells g.T.Ord.cmp g.met.T.Ord.total (keeps _ _ _) (λ s. s.a.now) (λ s. s.b.now) (λ s. s.in_a) (λ s. s.in_b)
    (λ s. s.found) _ _ _ still refl c.merge-never_refused.ensures.merged)
