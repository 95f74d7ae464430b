use Rattle.std.proofs.Common.{refl}
use Rattle.vecbench_lines.proofs.tree_line.TreeLine.read.Goals as goal

pub same-tree : goal.same-tree
same-tree c = refl
