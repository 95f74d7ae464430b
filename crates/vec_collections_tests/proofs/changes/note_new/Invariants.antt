-- The numbers so far are appended.
use Rattle.std.proofs.Common.{◌≡◌, ◌++◌, map, take}
use Rattle.vec_collections_tests.specs.declared.changes.Change.TheVariants.{New}
use Rattle.vec_collections_tests.proofs.changes.note_new.Given as goal

abbrev pub invariant-loop-number : goal.invariant-loop-number
invariant-loop-number l = l.changes.items ≡ l.initial.changes.items ++ map (λ x. New x) (take l.number-index l.numbers)
