use Rattle.vc_sets.proofs.ByHeads.{either-at}
use Rattle.vc_sets.proofs.operations.EitherOpMergeOperation.event.Goals as goal

pub returns-clause-gives : goal.returns-clause-gives
returns-clause-gives g c =
    either-at g.M.MergeStateMut.advances_a g.M.MergeStateMut.skips_b g.M.MergeFromRight.takes_b c.args.heads _ c.args.state.now
    c.take_lesser.result c.take_lesser.new.self c.take_lesser.ensures.gives
