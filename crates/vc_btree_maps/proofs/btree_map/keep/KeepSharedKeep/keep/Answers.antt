use Rattle.std.proofs.Common.{refl}
use Rattle.vc_btree_maps.proofs.btree_map.keep.KeepSharedKeep.keep.Goals as goal

pub returns-in-Some : goal.returns-in-Some
returns-in-Some g c =
    rw c.in-Some.is (record {
      key = c.args.key;
      value = _;
      other = c.in-Some.other;
      shows = refl;
      kept =
          c.call.result;
      left = _;
      says = c.call.ensures;
      stays = refl;
    })
