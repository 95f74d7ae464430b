use Rattle.std.proofs.Common.{◌≡◌, List, Ok, Err, Result, IfOk, ◌∙◌}
use Rattle.std.specs.Iterator.{Drains}
use Rattle.std.specs.Map.Iter.{TakesFirst}
use Rattle.vc_merge.proofs.Chosen.{all-taken}
use Rattle.vc_sets.proofs.Collected.{fits-given}
use Rattle.vc_maps.proofs.vec_map.VecMap.from_btree_map.Goals as goal

-- what drains the iterator over a list is the list
drained : {X E : Type 0} (ks keys : List X) (r : Result (List X) E) → ks ≡ keys
    → IfOk r (λ m. Drains (TakesFirst (λ x. x)) ks m) → IfOk r (λ m. m ≡ keys)
drained ks keys (Ok m) e d = all-taken ks d.1.0 m d.0 d.1.1 d.1.2 ∙ e
drained ks keys (Err x) e d = tt

pub returns-clause-pairs : goal.returns-clause-pairs
returns-clause-pairs g c = drained _ _ _ c.into_iter.ensures.into_iter_gives.0 c.from_iter.ensures.items

pub returns-clause-room : goal.returns-clause-room
returns-clause-room g c = fits-given _ _ _ c.from_iter.result c.into_iter.ensures.into_iter_gives.0 c.from_iter.ensures.room
