use Rattle.std.proofs.Common.{◌≡◌, ◌-◌, ◌≤◌, take, length}
use Rattle.smallvec.specs.SmallVec.{small_vec_len, HasRoomFor}
use Rattle.vc_maps.specs.Keeping.{ClonesKeys}
use Rattle.vc_maps.proofs.in_place.push_keys.Given as goal

abbrev pub invariant-pairs : goal.invariant-pairs
invariant-pairs g l = record {
  front : take (small_vec_len l.fn.list) l.list.items ≡ l.fn.list.items;
  behind : small_vec_len l.fn.list ≤ small_vec_len l.list;
  cloned : ClonesKeys g.K.Clone.is_clone (take l.pair-index l.pairs) l.fn.list.items l.list.items;
  room : HasRoomFor l.list (length l.pairs - l.pair-index);
}
