use Rattle.std.proofs.Common.{◌≡◌, ◌<◌, ◌^◌, length}
use Rattle.vecbench_lines.proofs.Reading.{number_after}
use Rattle.vecbench_lines.proofs.numbers.read_number.Given as goal

-- the digits that are left follow those of the value
abbrev pub invariant-loop-rest : goal.invariant-loop-rest
invariant-loop-rest l = (number_after l.value l.rest ≡ number_after 0 l.word) × (l.value < 2 ^ 64)

abbrev pub decreases-loop-rest : goal.decreases-loop-rest
decreases-loop-rest l = length l.rest
