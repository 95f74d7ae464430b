use Rattle.std.proofs.Common.{refl}
use Rattle.vecbench_lines.proofs.Answering.{IsPicked-from_set}
use Rattle.vecbench_lines.proofs.set_line.SetLine.combine.Goals as goal

pub returns : goal.returns
returns c = IsPicked-from_set _ _ _ _ _ c.combine.result refl c.combine.ensures.combined
