-- The iterator gives the list, and the tree is that of what it gives.
use Rattle.std.proofs.Common.{map, ◌≡◌}
use Rattle.std.proofs.lemmas.Result.{IfOk-weaker}
use Rattle.std.specs.Ordering.{nat_cmp}
use Rattle.std.specs.Vec.Iter.{into_iter_items}
use Rattle.vec_collections.specs.Map.{lookup, IsEqualMap}
use Rattle.vec_collections.specs.TreePairs.{last_bound}
use Rattle.vec_collections.specs.Value.{Copies}
use Rattle.vec_collections_tests.proofs.Bound.{of-list}
use Rattle.vec_collections_tests.proofs.keys.of_names_shared.Goals as goal

pub returns : goal.returns
returns c =
    IfOk-weaker c.from_iter.result _ _
    (λ t. of-list (λ s. into_iter_items s) c.into_iter.result _ c.into_iter.ensures.rest c.into_iter.ensures.runs
    (λ pairs. IsEqualMap (Copies (λ x y. y ≡ x)) (last_bound nat_cmp (map (λ b. (b.0.now, b.1)) pairs)) (lookup nat_cmp t)))
    c.from_iter.ensures.pairs
