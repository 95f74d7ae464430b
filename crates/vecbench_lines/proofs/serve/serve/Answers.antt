use Rattle.vecbench_lines.proofs.Joining.{Stands-fresh}
use Rattle.vecbench_lines.proofs.serve.serve.Goals as goal

pub returns-in-Ok-run-clause-served : goal.returns-in-Ok-run-clause-served
returns-in-Ok-run-clause-served g c text is below =
    let progress = c.in-Ok-run.ensures text is
    (Stands-fresh (g.O.Write.contents c.args.output.now) c.in-Ok-new.session c.in-Ok-new.ensures) in
    (progress.text, c.run.new.self.has_fault, progress.replies, progress.written, c.status.ensures)
