use Rattle.std.proofs.Common.{ap, sym}
use Rattle.std.specs.Iterator.Runs.{ItemsMapTo}
use Rattle.std.specs.Slice.Iter.{iter_rest, iter_steps}
use Rattle.vc_merge.specs.Yielded.{by_first, list-along}
use Rattle.vc_merge.proofs.ListLemmas.{pairs-ascend}
use Rattle.vc_merge.proofs.Running.{inside-every}
use Rattle.vc_merge.proofs.iterators.vec_map_iter_of.Goals as goal

pub vec_map_iter-requires : goal.vec_map_iter-requires
vec_map_iter-requires g c =
    list-along iter_steps (λ x. x.now) iter_rest (λ s x t h. h) (by_first g.K.Ord.cmp) (λ s t h. ap iter_rest (sym h.1))
    c.iter.result (rw c.iter.ensures.rest (pairs-ascend g.K.Ord.cmp c.args.list.now c.requires))

pub returns-clause-steps : goal.returns-clause-steps
returns-clause-steps g c =
    inside-every iter_steps (λ p q. by_first g.K.Ord.cmp p.now q.now)
    (λ p. ItemsMapTo p (λ x. x.now) (iter_rest p.from)) c.iter.ensures.runs
