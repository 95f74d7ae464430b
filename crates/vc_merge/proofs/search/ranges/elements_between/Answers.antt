use Rattle.std.proofs.Common.{◌∙◌}
use Rattle.vc_merge.proofs.Cutting.{range-sought}
use Rattle.vc_merge.proofs.PlaceLemmas.{ordered-ascends}
use Rattle.vc_merge.proofs.search.ranges.elements_between.Goals as goal

pub between-requires : goal.between-requires
between-requires g c = λ s. ordered-ascends g.T.Ord.cmp g.met.T.Ord.total s.0.now (λ y. y) c.args.list.now c.requires

pub returns : goal.returns
returns g c = λ told.
    c.between.ensures
    ∙ range-sought _ g.met.T.Ord.total (λ y. y) (λ s. s.0.now) _ _ _ _
    (c.element_bound-start.ensures ∙ c.start_bound.ensures told)
    (c.element_bound-end.ensures ∙ c.end_bound.ensures told) c.args.list.now
