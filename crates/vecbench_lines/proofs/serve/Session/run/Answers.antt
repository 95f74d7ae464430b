use Rattle.std.proofs.Common.{arith, rules, ◌≡◌, sym, subst, ◌<◌, take, length}
use Rattle.std.specs.Io.KnownBytes.{Consumes}
use Rattle.vecbench_lines.specs.Served.{Progress}
use Rattle.vecbench_lines.proofs.Replying.{on_ok-map}
use Rattle.vecbench_lines.proofs.Joining.{Reading-end, Reading-chunk, Stands-kept}
use Rattle.vecbench_lines.proofs.serve.Session.run.Goals as goal

pub returns-then-count-eq0 : goal.returns-then-count-eq0
returns-then-count-eq0 g c text is stood =
    let reading = c.loop.invariant.1 text is stood in
    let took = c.in_ok-count.ensures.bytes in
    let zero : c.in_ok-count.count ≡ 0 = search (rules, c.if-count-eq0.true) in
    let some : 0 < length c.read_some.new.chunk = omega (arith, c.loop.invariant.0, c.read_some.auto.chunk) in
    let none = subst (λ n. Consumes (g.I.Read.remaining c.loop.input) (g.I.Read.remaining c.read_some.new.input)
    (take n c.read_some.new.chunk)) zero took.0 in
    on_ok-map c.finish.result
    (λ p. subst (λ ls. Progress ls (g.O.Write.contents c.args.output.now) (g.O.Write.contents c.finish.new.output)
    c.finish.new.self) (sym (Reading-end text _ _ _ _ _ reading none (took.1 zero some))) p)
    (c.finish.ensures reading.done reading.taken _ (Stands-kept c.flush.ensures.bytes reading.stands))

pub loop-preserved : goal.loop-preserved
loop-preserved g c = (
  omega (arith, c.loop.invariant.0, c.read_some.auto.chunk),
  λ text is stood.
      let reading = c.loop.invariant.1 text is stood in
      Reading-chunk _ reading c.in_ok-count.ensures.bytes.0
      (c.in_ok-take_chunk.ensures reading.done reading.taken _ (Stands-kept c.flush.ensures.bytes reading.stands)),
)
