use Rattle.std.proofs.Common.{◌≡◌, ◌+◌, ◌||◌, false, length}
use Rattle.std.specs.List.{AllByRecursion}
use Rattle.std.specs.Vec.Iter.{into_iter_items}
use Rattle.smallvec.specs.SmallVec.{HasRoomFor}
use Rattle.vc_merge.specs.Ascending.{Ascends}
use Rattle.vc_intervals.specs.Boundaries.{toggled}
use Rattle.vc_intervals.specs.Ranges.{in_some, IsSwept, StartsAscend}
use Rattle.vc_intervals.proofs.interval_set.IntervalSet.from_ranges.Given as goal

abbrev pub invariant-loop-range : goal.invariant-loop-range
invariant-loop-range g l = record {
  can : (goal.iterator-loop-range g).can_next l.range-iterator;
  finite : (goal.iterator-loop-range g).is_finite l.range-iterator;
  room : HasRoomFor l.boundaries (length (into_iter_items l.range-iterator) + length (into_iter_items l.range-iterator));
  ascends : Ascends g.T.Ord.cmp l.boundaries.items;
  starts : StartsAscend g.T.Ord.cmp (into_iter_items l.range-iterator);
  swept : AllByRecursion (λ q. IsSwept g.T.Ord.cmp q.start l.boundaries.items) (into_iter_items l.range-iterator);
  at : (x : g.row.T.Denot) → (in_some g.T.Ord.cmp (into_iter_items l.range-iterator) x || toggled g.T.Ord.cmp false l.boundaries.items x)
      ≡ in_some g.T.Ord.cmp l.fn.ranges.items x;
}
