use Rattle.std.proofs.Common.{◌≡◌, List, sym, ◌∙◌}
use Rattle.std.specs.Iterator.{YieldsFirst}
use Rattle.std.specs.Iterator.Runs.{ItemsAre}
use Rattle.std.specs.declared.cmp.Ordering.{Ordering}
use Rattle.vc_joins.specs.Entries.{AscendsByKey}
use Rattle.vc_merge.specs.Yielded.{AscendsAlong, by_first, list-along}
use Rattle.vc_merge.proofs.ListLemmas.{pairs-ascend}
use Rattle.vc_merge.proofs.Running.{inside-every}
use Rattle.vc_maps.proofs.vec_map.iteration.VecMapIntoIterator.into_iter.Goals as goal

-- whatever comes of a list of pairs whose keys ascend
goes_on : {K V : Type 0} (cmp : K → K → Ordering) (it pairs : List (K × V)) → it ≡ pairs → AscendsByKey cmp pairs
    → AscendsAlong (YieldsFirst {A = K × V} (λ rest. rest)) (by_first cmp) it
goes_on {K} {V} cmp it pairs e p =
    list-along (YieldsFirst {A = K × V} (λ rest. rest)) (λ x. x) (λ rest. rest) (λ s x t h. h) (by_first cmp)
    (λ s t h. h.0 ∙ sym h.1) it
    (rw e (pairs-ascend cmp pairs p))

pub vec_map_iter-requires : goal.vec_map_iter-requires
vec_map_iter-requires g c = goes_on g.K.Ord.cmp c.into_iter.result _ c.into_iter.ensures.into_iter_gives.0 c.self.invariant

pub returns : goal.returns
returns g c =
    record {
      into_iter_gives = (
        c.vec_map_iter.ensures ∙ c.into_iter.ensures.into_iter_gives.0 ∙ c.self.view_is,
        rw c.vec_map_iter.ensures (goes_on g.K.Ord.cmp c.into_iter.result _ c.into_iter.ensures.into_iter_gives.0
            c.self.invariant),
        c.into_iter.ensures.into_iter_gives.1,
        inside-every (YieldsFirst (λ rest. rest)) (by_first g.K.Ord.cmp) (λ p. ItemsAre p p.from)
            c.into_iter.ensures.into_iter_gives.1,
      );
    }
