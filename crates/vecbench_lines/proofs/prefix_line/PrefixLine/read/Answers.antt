use Rattle.std.proofs.Common.{refl}
use Rattle.vecbench_lines.proofs.prefix_line.PrefixLine.read.Goals as goal

pub same-tree : goal.same-tree
same-tree c = refl
