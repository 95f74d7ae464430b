-- The articles so far that are sold out are counted.
use Rattle.std.proofs.Common.{◌≡◌, ◌==◌, ℕ, map, count_by}
use Rattle.vec_collections_tests.proofs.maps.count_sold_out.Given as goal

abbrev pub invariant-loop-pieces : goal.invariant-loop-pieces
invariant-loop-pieces l =
    (goal.iterator-loop-pieces).can_next l.pieces-iterator × (goal.iterator-loop-pieces).is_finite l.pieces-iterator
    × (l.count ≡ count_by (λ (pair : ℕ × ℕ). pair.1 == 0) (map (λ pair. pair.now) l.yielded))
