-- The odd ones of the tags so far are counted.
use Rattle.std.proofs.Common.{◌≡◌, ◌==◌, ◌%◌, map, count_by}
use Rattle.vec_collections_tests.proofs.sets.count_odd.Given as goal

abbrev pub invariant-loop-tag : goal.invariant-loop-tag
invariant-loop-tag l =
    (goal.iterator-loop-tag).can_next l.tag-iterator × (goal.iterator-loop-tag).is_finite l.tag-iterator
    × (l.count ≡ count_by (λ tag. tag % 2 == 1) (map (λ tag. tag.now) l.yielded))
