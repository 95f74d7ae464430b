use Rattle.std.proofs.Common.{List, ℕ, Option, length}
use Rattle.vecbench_lines.specs.declared.parts.Separator.TheVariants.{Newline}
use Rattle.vecbench_lines.specs.Parts.{parts_of_rest}
use Rattle.vecbench_lines.specs.Served.{Stands}
use Rattle.vecbench_lines.proofs.Chunks.{Underway}
use Rattle.vecbench_lines.proofs.serve.Session.take_chunk.Given as goal

-- wherever the session stood before the loop, it is underway from there
abbrev pub invariant-loop-rest : goal.invariant-loop-rest
invariant-loop-rest g l = (lines : List (List ℕ)) → (taken : List ℕ) → (start : Option (List ℕ))
    → Stands lines taken start (g.O.Write.contents l.initial.output) l.initial.self
    → Underway lines taken (parts_of_rest Newline l.initial.rest) (parts_of_rest Newline l.rest) start
    (g.O.Write.contents l.output) l.self

abbrev pub decreases-loop-rest : goal.decreases-loop-rest
decreases-loop-rest g l = length (parts_of_rest Newline l.rest)
