use Rattle.vc_merge.proofs.PlaceLemmas.{ordered-ascends}
use Rattle.vc_merge.proofs.search.find.Goals as goal

pub look_up-requires : goal.look_up-requires
look_up-requires g c = ordered-ascends g.T.Ord.cmp g.met.T.Ord.total c.args.value.now (λ y. y) c.args.list.now c.requires
