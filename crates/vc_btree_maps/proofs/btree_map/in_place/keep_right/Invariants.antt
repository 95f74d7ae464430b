use Rattle.vc_btree_maps.specs.Pairs.{pairs_left}
use Rattle.vc_btree_maps.proofs.Passing.{IsPassed}
use Rattle.vc_btree_maps.proofs.Staying.{WasThere, IsDecided}
use Rattle.vc_btree_maps.proofs.btree_map.in_place.keep_right.Given as goal

-- the values at the keys of the pairs that are left are as they were, and those at the others are decided
abbrev pub invariant-keys : goal.invariant-keys
invariant-keys g l = IsPassed g.K.Ord.cmp (WasThere g.K.Ord.cmp l.initial.this.entries)
    (IsDecided g.K.Ord.cmp (g.J.Keep.may l.judge) (g.M.AbstractBTreeMap.pairs l.that) l.initial.this.entries)
    (g.M.AbstractBTreeMap.pairs l.that) (pairs_left l.key-iterator) l.this.entries
