use Rattle.std.proofs.Common.{◌+◌}
use Rattle.vecbench_lines.specs.Parts.{parts_at}
use Rattle.vecbench_lines.proofs.Cutting.{slice_split-cut, slice_split-none, take-drop_rest}
use Rattle.vecbench_lines.proofs.parts.Separator.cut.Goals as goal

pub returns-in-Some : goal.returns-in-Some
returns-in-Some c = slice_split-cut (parts_at c.args.self) c.args.text.now _ c.in-Some.end c.in-Some.ensures
    (take-drop_rest (c.in-Some.end + 1) c.args.text.now)

pub returns-in-None : goal.returns-in-None
returns-in-None c = slice_split-none (parts_at c.args.self) c.args.text.now c.in-None.ensures
