use Rattle.std.proofs.Common.{◌≡◌, ◌++◌, map}
use Rattle.std.specs.Map.Iter.{deref_pair}
use Rattle.vc_btree_maps.specs.Keeping.{MayGive}
use Rattle.vc_btree_maps.specs.Pairs.{pairs_left}
use Rattle.vc_btree_maps.specs.Stages.{shared_with}
use Rattle.vc_btree_maps.proofs.Giving.{IsGivenThere}
use Rattle.vc_btree_maps.proofs.Passing.{IsPassed}
use Rattle.vc_btree_maps.proofs.Staying.{WasThere}
use Rattle.vc_btree_maps.proofs.btree_map.in_place.give_new.Given as goal

-- something was given at the new keys of all pairs but those that are left, and the pairs at shared keys are those of the list,
-- and those that are left
abbrev pub invariant-keys : goal.invariant-keys
invariant-keys g l = IsPassed g.K.Ord.cmp (WasThere g.K.Ord.cmp l.initial.this.entries)
    (IsGivenThere g.K.Ord.cmp g.K.Clone.is_clone (MayGive g.G.Fn l.given) (g.M.AbstractBTreeMap.pairs l.that)
    l.initial.this.entries) (g.M.AbstractBTreeMap.pairs l.that) (pairs_left l.key-iterator) l.this.entries
    × (map deref_pair l.shared.items ++ shared_with g.K.Ord.cmp l.initial.this.entries (pairs_left l.key-iterator)
    ≡ shared_with g.K.Ord.cmp l.initial.this.entries (g.M.AbstractBTreeMap.pairs l.that))
