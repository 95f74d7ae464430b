use Rattle.std.specs.Slice.Iter.{iter_rest}
use Rattle.vc_merge.proofs.BothWays.{shows_mapped}
use Rattle.vc_merge.proofs.iterators.pairs.vec_map_keys_of.Goals as goal

pub returns : goal.returns
returns g c = shows_mapped (λ p. p.0) c.args.list.now (iter_rest c.iter.result) c.iter.ensures.rest c.iter.ensures.bound
