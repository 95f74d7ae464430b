use Rattle.vc_merge.proofs.Parted.{on-ok}
use Rattle.vc_maps.proofs.vec_map.VecMap.extend.Goals as goal

pub returns-clause-joins : goal.returns-clause-joins
returns-clause-joins g c =
    on-ok c.merge_with.result _ _ (λ j. (_, c.in_ok-that.ensures.items, j)) c.merge_with.ensures.joins

pub returns-clause-runs : goal.returns-clause-runs
returns-clause-runs g c =
    let w = c.in_ok-that.ensures.runs in
    on-ok c.merge_with.result _ _
    (λ j. (w.0, w.1, w.2, rw (← w.3) j)) c.merge_with.ensures.joins

pub returns-clause-values : goal.returns-clause-values
returns-clause-values g c =
    let w = c.in_ok-that.ensures.runs in
    on-ok c.merge_with.result _ _
    (λ j. (w.0, w.1, w.2, rw (← w.3) j)) c.merge_with.ensures.values
