use Rattle.std.proofs.Common.{◌≡◌, ◌++◌, length}
use Rattle.smallvec.specs.SmallVec.{HasRoomFor}
use Rattle.std.specs.Vec.Iter.{into_iter_items}
use Rattle.vc_sets.proofs.vec_set.VecSet.from_vec.Given as goal

abbrev pub invariant-loop-element : goal.invariant-loop-element
invariant-loop-element g l =
    (goal.iterator-loop-element g).can_next l.element-iterator
    × (goal.iterator-loop-element g).is_finite l.element-iterator
    × (l.elements.items ++ into_iter_items l.element-iterator ≡ l.fn.vec.items)
    × HasRoomFor l.elements (length (into_iter_items l.element-iterator))
