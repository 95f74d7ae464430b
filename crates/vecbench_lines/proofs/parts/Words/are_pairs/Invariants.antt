use Rattle.std.proofs.Common.{◌≡◌, length}
use Rattle.vecbench_lines.specs.Parts.{are_pairs}
use Rattle.vecbench_lines.specs.PartsLeft.{words_left}
use Rattle.vecbench_lines.proofs.parts.Words.are_pairs.Given as goal

-- the words that were passed stand in pairs
abbrev pub invariant-loop-self : goal.invariant-loop-self
invariant-loop-self l = are_pairs (words_left l.self) ≡ are_pairs (words_left l.initial.self)

abbrev pub decreases-loop-self : goal.decreases-loop-self
decreases-loop-self l = length (words_left l.self)
