use Rattle.vc_merge.proofs.Runs.{heads-less, heads-greater}
use Rattle.vc_merge.proofs.merge.MergeOperation.event.Goals as goal

pub from_a-requires-clause-alone : goal.from_a-requires-clause-alone
from_a-requires-clause-alone g c =
    heads-less _ (g.met.Self.MergeOperation.total c.args.self.now) _ _ c.requires.ascend (rw c.in-Less.is at c.requires.heads)

pub from_b-requires-clause-alone : goal.from_b-requires-clause-alone
from_b-requires-clause-alone g c =
    heads-greater _ (g.met.Self.MergeOperation.total c.args.self.now) _ _ c.requires.ascend
    (rw c.in-Greater.is at c.requires.heads)
