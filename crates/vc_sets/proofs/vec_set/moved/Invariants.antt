use Rattle.std.proofs.Common.{◌≡◌, ◌+◌, ◌≤◌, ◌++◌, length}
use Rattle.std.specs.Prelude.{vec_len, vec_capacity}
use Rattle.std.specs.Vec.Iter.{into_iter_items}
use Rattle.vc_sets.proofs.vec_set.moved.Given as goal

abbrev pub invariant-loop-element : goal.invariant-loop-element
invariant-loop-element g l = record {
  can : (goal.iterator-loop-element g).can_next l.element-iterator;
  ends : (goal.iterator-loop-element g).is_finite l.element-iterator;
  items : l.list.items ++ into_iter_items l.element-iterator ≡ l.fn.vec.items;
  room : vec_len l.list + length (into_iter_items l.element-iterator) ≤ vec_capacity l.list;
}
