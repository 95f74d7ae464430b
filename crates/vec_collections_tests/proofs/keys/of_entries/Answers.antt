-- The iterator gives the list, and a plain tree binds the values of the last pairs themselves.
use Rattle.std.proofs.Common.{map, ◌≡◌}
use Rattle.std.proofs.lemmas.Result.{IfOk-weaker}
use Rattle.std.specs.Ordering.{nat_cmp}
use Rattle.std.specs.Vec.Iter.{into_iter_items}
use Rattle.vec_collections.specs.Exact.{maps-same}
use Rattle.vec_collections.specs.Map.{lookup, IsEqualMap}
use Rattle.vec_collections.specs.TreePairs.{last_bound}
use Rattle.vec_collections_tests.proofs.Bound.{of-list}
use Rattle.vec_collections_tests.proofs.keys.of_entries.Goals as goal

pub returns : goal.returns
returns c =
    IfOk-weaker c.from_vecs.result _ _
    (λ t came. maps-same _ _
    (of-list (λ s. into_iter_items s) c.into_iter.result _ c.into_iter.ensures.rest c.into_iter.ensures.runs
    (λ pairs. IsEqualMap (λ v w. v ≡ w) (last_bound nat_cmp (map (λ b. (b.0.items, b.1)) pairs)) (lookup nat_cmp t)) came))
    c.from_vecs.ensures.pairs
