use Rattle.std.proofs.Common.{◌≡◌, ◌≤◌, take, length}
use Rattle.std.specs.Prelude.{vec_len, vec_capacity}
use Rattle.std.specs.List.{AllZip}
use Rattle.vc_merge.proofs.states.many_clones.Given as goal

abbrev pub invariant-loop-item : goal.invariant-loop-item
invariant-loop-item g l = record {
  come : AllZip g.T.Clone.is_clone (take l.item-index l.items) l.list.items;
  len : vec_len l.list ≡ l.item-index;
  room : length l.items ≤ vec_capacity l.list;
}
