use Rattle.std.proofs.Common.{◌≡◌, ◌++◌, length}
use Rattle.std.specs.Vec.Iter.{into_iter_items}
use Rattle.smallvec.specs.SmallVec.{HasRoomFor}
use Rattle.vc_merge.proofs.lists.append_moved.Given as goal

abbrev pub invariant-loop-item : goal.invariant-loop-item
invariant-loop-item g l = record {
  can : (goal.iterator-loop-item g).can_next l.item-iterator;
  ends : (goal.iterator-loop-item g).is_finite l.item-iterator;
  items : l.whole.items ++ into_iter_items l.item-iterator ≡ l.fn.list.items ++ l.fn.that.items;
  room : HasRoomFor l.whole (length (into_iter_items l.item-iterator));
}
