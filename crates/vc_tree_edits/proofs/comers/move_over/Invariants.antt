-- The first trees have moved.
use Rattle.std.proofs.Common.{◌≡◌, ◌++◌, take, drop}
use Rattle.vc_tree_edits.proofs.comers.move_over.Given as goal

abbrev pub invariant-loop-moved : goal.invariant-loop-moved
invariant-loop-moved g l = record {
  left : l.from.items ≡ drop l._moved l.fn.from.items;
  put : l.to.items ≡ l.fn.to.items ++ take l._moved l.fn.from.items;
}
