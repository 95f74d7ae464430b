use Rattle.std.proofs.Common.{◌≡◌, ◌+◌, take}
use Rattle.smallvec.specs.SmallVec.{small_vec_len}
use Rattle.vc_merge.proofs.parts.push_blanks.Given as goal

abbrev pub invariant-loop-added : goal.invariant-loop-added
invariant-loop-added g l = record {
  front : take (small_vec_len l.fn.list) l.list.items ≡ l.fn.list.items;
  len : small_vec_len l.list ≡ small_vec_len l.fn.list + l.added;
  capacity : l.list.capacity ≡ l.fn.list.capacity;
}
