use Rattle.std.proofs.Common.{◌∙◌}
use Rattle.vc_merge.proofs.Cutting.{range-sought}
use Rattle.vc_merge.proofs.ListLemmas.{ascends-map}
use Rattle.vc_merge.proofs.PlaceLemmas.{ordered-ascends}
use Rattle.vc_merge.proofs.search.ranges.pairs_between.Goals as goal

pub between-requires : goal.between-requires
between-requires g c = λ s.
    ordered-ascends g.K.Ord.cmp g.met.K.Ord.total s.0.now (λ p. p.0) c.args.pairs.now
    (ascends-map g.K.Ord.cmp (λ p. p.0) c.args.pairs.now c.requires)

pub returns : goal.returns
returns g c = λ told.
    c.between.ensures
    ∙ range-sought _ g.met.K.Ord.total (λ p. p.0) (λ s. s.0.now) _ _ _ _ (c.key_bound-start.ensures ∙ c.start_bound.ensures told)
    (c.key_bound-end.ensures ∙ c.end_bound.ensures told) c.args.pairs.now
