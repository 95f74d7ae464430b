-- So many elements moved down.
use Rattle.vc_merge.specs.MovesDown.{MovesDown}
use Rattle.vc_tree_edits.proofs.lessening.move_down.Given as goal

abbrev pub invariant-loop-moved : goal.invariant-loop-moved
invariant-loop-moved g l = MovesDown l.fn.list l.kept l.at l.moved l.list
