use Rattle.vc_merge.proofs.LesserPassed.{lesser-given}
use Rattle.vc_merge.proofs.parts.PartsStateMergeFromRight.take_lesser.Goals as goal

pub returns-then-hole-gt0-clause-gives : goal.returns-then-hole-gt0-clause-gives
returns-then-hole-gt0-clause-gives g c = lesser-given c.args.self.now _ c.args.heads c.args.both c.pass_lesser.ensures

pub returns-else-hole-gt0-clause-gives : goal.returns-else-hole-gt0-clause-gives
returns-else-hole-gt0-clause-gives g c = lesser-given c.args.self.now _ c.args.heads c.args.both c.move_lesser.ensures
