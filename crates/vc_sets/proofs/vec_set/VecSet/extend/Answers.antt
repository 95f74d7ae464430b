use Rattle.std.proofs.Common.{◌≡◌, ◌||◌, subst}
use Rattle.vc_sets.specs.SetOf.{IsSetOf}
use Rattle.vc_merge.proofs.Parted.{on-ok}
use Rattle.vc_sets.proofs.vec_set.VecSet.extend.Goals as goal

pub returns-clause-runs : goal.returns-clause-runs
returns-clause-runs g c =
    let w = c.in_ok-that.ensures.runs in
    on-ok c.bitor_assign.result _ _
    (λ s. (
      w.0,
      w.1,
      w.2,
      subst (λ l. IsSetOf g.T.Ord.cmp (λ x y. x ≡ y) (λ x y. x ≡ y) ◌||◌ c.args.self.now l
          c.bitor_assign.new.self) w.3 s,
    )) c.bitor_assign.ensures.union
