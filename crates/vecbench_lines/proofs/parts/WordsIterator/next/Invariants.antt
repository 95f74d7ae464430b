use Rattle.std.proofs.Common.{◌≡◌, length}
use Rattle.vecbench_lines.specs.PartsLeft.{parts_left, words_left}
use Rattle.vecbench_lines.proofs.parts.WordsIterator.next.Given as goal

-- the empty parts that were passed over are no words
abbrev pub invariant-loop-part : goal.invariant-loop-part
invariant-loop-part l = words_left l.self ≡ words_left l.initial.self

abbrev pub decreases-loop-part : goal.decreases-loop-part
decreases-loop-part l = length (parts_left l.self.parts)
