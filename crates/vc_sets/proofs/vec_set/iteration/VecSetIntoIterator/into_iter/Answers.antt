use Rattle.std.proofs.Common.{sym, ◌∙◌}
use Rattle.std.specs.Iterator.{YieldsFirst}
use Rattle.std.specs.Iterator.Runs.{ItemsAre}
use Rattle.vc_merge.specs.Yielded.{list-along}
use Rattle.vc_merge.proofs.Running.{inside-every}
use Rattle.vc_sets.proofs.vec_set.iteration.VecSetIntoIterator.into_iter.Goals as goal

pub vec_set_iter-requires : goal.vec_set_iter-requires
vec_set_iter-requires g c =
    list-along (YieldsFirst (λ rest. rest)) (λ x. x) (λ rest. rest) (λ s x t h. h) g.T.Ord.cmp
    (λ s t h. h.0 ∙ sym h.1) c.into_iter.result
    (rw c.into_iter.ensures.into_iter_gives.0 c.self.invariant)

pub returns : goal.returns
returns g c =
    record {
      into_iter_gives = (
        c.vec_set_iter.ensures ∙ c.into_iter.ensures.into_iter_gives.0 ∙ c.self.view_is,
        inside-every (YieldsFirst (λ rest. rest)) g.T.Ord.cmp (λ p. ItemsAre p p.from) c.into_iter.ensures.into_iter_gives.1,
      );
    }
