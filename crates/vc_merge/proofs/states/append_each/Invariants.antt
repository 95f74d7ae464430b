use Rattle.std.proofs.Common.{◌≡◌, ◌-◌, ◌≤◌, take, length}
use Rattle.smallvec.specs.SmallVec.{small_vec_len, HasRoomFor}
use Rattle.vc_merge.specs.Building.{Extends}
use Rattle.vc_merge.proofs.states.append_each.Given as goal

abbrev pub invariant-loop-item : goal.invariant-loop-item
invariant-loop-item g l = record {
  front : take (small_vec_len l.fn.list) l.list.items ≡ l.fn.list.items;
  behind : small_vec_len l.fn.list ≤ small_vec_len l.list;
  extended : Extends g.T.Clone.is_clone (take l.item-index l.items) l.fn.list.items l.list.items;
  room : HasRoomFor l.list (length l.items - l.item-index);
}
