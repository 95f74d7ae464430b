use Rattle.std.proofs.Common.{drop, map}
use Rattle.std.specs.Map.Iter.{deref_pair}
use Rattle.vc_btree_maps.proofs.Passing.{IsPassed}
use Rattle.vc_btree_maps.proofs.Staying.{WasThere, IsDecided}
use Rattle.vc_btree_maps.proofs.btree_map.in_place.keep_shared.Given as goal

-- the values at the keys of the pairs that are left are as they were, and those at the others are decided
abbrev pub invariant-pairs : goal.invariant-pairs
invariant-pairs g l = IsPassed g.K.Ord.cmp (WasThere g.K.Ord.cmp l.initial.this.entries)
    (IsDecided g.K.Ord.cmp (g.J.Keep.may l.judge) (map deref_pair l.shared) l.initial.this.entries)
    (map deref_pair l.shared) (map deref_pair (drop l.key-index l.shared)) l.this.entries
