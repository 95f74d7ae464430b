use Rattle.std.specs.Io.KnownBytes.{Keeps}
use Rattle.vecbench_lines.proofs.serve.read_some.Given as goal

-- a read that is interrupted takes nothing
abbrev pub invariant-loop : goal.invariant-loop
invariant-loop g l = Keeps (g.I.Read.remaining l.initial.input) (g.I.Read.remaining l.input)
