use Rattle.std.proofs.Common.{refl}
use Rattle.vc_sets.proofs.Witnessed.{witnessed}
use Rattle.vc_sets.proofs.witness.has_witness.Goals as goal

pub returns-clause-found : goal.returns-clause-found
returns-clause-found g c = witnessed g.T.Ord.cmp g.met.T.Ord.total _ _ _ (λ s. s.a.now) (λ s. s.b.now)
    (λ s. s.found) _ _ _ refl c.merge-never_refused.ensures.merged
