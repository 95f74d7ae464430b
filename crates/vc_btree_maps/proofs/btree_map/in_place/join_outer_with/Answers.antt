use Rattle.std.proofs.Common.{ap, ◌∙◌}
use Rattle.std.specs.Map.Iter.{deref_pair}
use Rattle.std.specs.Prelude.{map}
use Rattle.vc_btree_maps.proofs.Giving.{shared-ascends, second-takes, third-takes, outer-of_passes}
use Rattle.vc_btree_maps.proofs.btree_map.in_place.join_outer_with.Goals as goal

pub keep_shared-requires : goal.keep_shared-requires
keep_shared-requires g c =
    let e = c.in_ok-shared.ensures in
    rw (c.deref.ensures.value, e.shared) (record {
      ascends = shared-ascends g.met.K.Ord.total _ _ e.ascends;
      takes = second-takes g.met.K.Ord.total (g.J.Keep.may c.args.judge.now) e.given (g.J.Keep.takes c.args.judge.now)
          c.requires.takes;
    })

pub keep_each-requires : goal.keep_each-requires
keep_each-requires g c =
    let e = c.in_ok-shared.ensures in record {
      takes = third-takes g.met.K.Ord.total (g.J.Keep.may c.args.judge.now) e.given
          (ap (map deref_pair) c.deref.ensures.value ∙ e.shared) c.keep_shared.ensures (g.J.Keep.takes c.args.judge.now)
          c.requires.takes;
    }

pub returns-clause-joins : goal.returns-clause-joins
returns-clause-joins g c =
    let e = c.in_ok-shared.ensures in
    outer-of_passes g.met.K.Ord.total (g.J.Keep.may c.args.judge.now) e.given
    (ap (map deref_pair) c.deref.ensures.value ∙ e.shared) c.keep_shared.ensures c.keep_each.ensures
