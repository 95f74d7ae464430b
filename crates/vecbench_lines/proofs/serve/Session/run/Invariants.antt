use Rattle.std.proofs.Common.{◌≡◌, ◌<◌, List, ℕ, [], Some, length}
use Rattle.vecbench_lines.specs.Served.{Stands}
use Rattle.vecbench_lines.proofs.Joining.{Reading}
use Rattle.vecbench_lines.proofs.serve.Session.run.Given as goal

-- where the text is known, the lines that ended so far are answered
abbrev pub invariant-loop : goal.invariant-loop
invariant-loop g l =
    (0 < length l.chunk) ×
    ((text : List ℕ) → g.I.Read.remaining l.initial.input ≡ Some text
    → Stands [] [] (g.O.Write.contents l.initial.output) (g.O.Write.contents l.initial.output) l.initial.self
    → Reading text (g.I.Read.remaining l.input) (g.O.Write.contents l.initial.output) (g.O.Write.contents l.output) l.self)
