use Rattle.std.proofs.Common.{◌≡◌, ◌++◌, List, length}
use Rattle.vecbench_lines.specs.Changes.{Change, SaysChanges}
use Rattle.vecbench_lines.specs.Judged.{fault_in_changes}
use Rattle.vecbench_lines.specs.PartsLeft.{words_left}
use Rattle.vecbench_lines.proofs.changes.read_changes.Given as goal

-- what the words that are left say stands behind what was read, which has no fault
abbrev pub invariant-loop-name : goal.invariant-loop-name
invariant-loop-name l =
    ((more : List Change) → SaysChanges (words_left l.words) more
    → SaysChanges (words_left l.initial.words) (l.changes.items ++ more))
    × (fault_in_changes (words_left l.initial.words) ≡ fault_in_changes (words_left l.words))

abbrev pub decreases-loop-name : goal.decreases-loop-name
decreases-loop-name l = length (words_left l.words)
