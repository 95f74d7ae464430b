use Rattle.std.proofs.Common.{map, ap}
use Rattle.std.proofs.lemmas.List.{drop_all}
use Rattle.std.specs.Map.Iter.{deref_pair}
use Rattle.vc_btree_maps.proofs.Staying.{dropped, none-decided, next-decided, all-decided, takes-shared}
use Rattle.vc_btree_maps.proofs.btree_map.in_place.keep_shared.Goals as goal

pub pairs-init : goal.pairs-init
pairs-init g c = none-decided g.met.K.Ord.total c.requires.ascends c.keys_ascend.ensures

pub keep_at-requires : goal.keep_at-requires
keep_at-requires g c = record {
  takes = takes-shared g.met.K.Ord.total
      (rw (dropped _ _ c.pairs-item.result c.pairs-test.true c.pairs-item.is) at c.pairs.invariant)
      (g.J.Keep.takes c.args.judge.now) c.requires.takes;
}

pub pairs-preserved : goal.pairs-preserved
pairs-preserved g c =
    next-decided g.met.K.Ord.total (rw (dropped _ _ c.pairs-item.result c.pairs-test.true c.pairs-item.is) at c.pairs.invariant)
    c.keep_at.ensures.kept

pub returns : goal.returns
returns g c = all-decided g.met.K.Ord.total c.pairs.invariant (ap (map deref_pair) (drop_all _ _ c.pairs-test.false))
