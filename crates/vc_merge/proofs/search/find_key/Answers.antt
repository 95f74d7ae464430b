use Rattle.vc_merge.proofs.ListLemmas.{ascends-map}
use Rattle.vc_merge.proofs.PlaceLemmas.{ordered-ascends}
use Rattle.vc_merge.proofs.search.find_key.Goals as goal

pub look_up-requires : goal.look_up-requires
look_up-requires g c =
    ordered-ascends g.K.Ord.cmp g.met.K.Ord.total c.args.key.now (λ p. p.0) c.args.pairs.now
    (ascends-map g.K.Ord.cmp (λ p. p.0) c.args.pairs.now c.requires)
