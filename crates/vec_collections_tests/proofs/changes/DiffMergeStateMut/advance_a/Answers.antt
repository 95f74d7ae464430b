-- What was taken is noted, and what was skipped is not.
use Rattle.std.proofs.Common.{arith}
use Rattle.std.proofs.lemmas.Grind.{common_steps}
use Rattle.vec_collections_tests.proofs.Noted.{gone_and_come}
use Rattle.vec_collections_tests.proofs.changes.DiffMergeStateMut.advance_a.Goals as goal
use Rattle.vec_collections_tests.proofs.changes.DiffMergeStateMut.advance_a.Goals.{then-take+in_ok-note_gone, else-take}

pub returns-clause-gives : goal.returns-clause-gives
returns-clause-gives c = elim c.if-take.branch [
  | then-take+in_ok-note_gone w ↦ grind (arith, common_steps, gone_and_come)
  | else-take w ↦ grind (arith, common_steps)
]
