use Rattle.std.proofs.Common.{◌<◌, ◌^◌, ap, sym, ◌∙◌, subst, length}
use Rattle.std.specs.Iterator.Runs.{ItemsMapTo}
use Rattle.std.specs.Slice.Iter.{iter_rest, iter_steps}
use Rattle.vc_merge.specs.Yielded.{list-along}
use Rattle.vc_merge.proofs.Running.{inside-every}
use Rattle.vc_sets.proofs.vec_set.iteration.elements_of.Goals as goal

pub vec_set_iter-requires : goal.vec_set_iter-requires
vec_set_iter-requires g c =
    list-along iter_steps (λ x. x.now) iter_rest (λ s x t h. h) g.T.Ord.cmp (λ s t h. ap iter_rest (sym h.1)) c.iter.result
    (rw c.iter.ensures.rest c.requires)

pub returns : goal.returns
returns g c = (
  ap iter_rest c.vec_set_iter.ensures ∙ c.iter.ensures.rest,
  subst (λ it. length (iter_rest it) < 2 ^ 64) (sym c.vec_set_iter.ensures) c.iter.ensures.bound,
  inside-every iter_steps (λ x y. g.T.Ord.cmp x.now y.now)
      (λ p. ItemsMapTo p (λ x. x.now) (iter_rest p.from)) c.iter.ensures.runs,
  c.iter.ensures.runs_back,
)
