use Rattle.vc_merge.proofs.Chains.{next-lesser}
use Rattle.vc_merge.proofs.linear.pass_heads.Goals as goal

pub returns-clause-next : goal.returns-clause-next
returns-clause-next g c =
    next-lesser _ _ (g.met.O.MergeOperation.total c.args.op.now) (g.O.MergeOperation.ready c.args.op.now) _ _ c.args.heads _
    c.requires.ascend c.requires.heads c.event.ensures.gives c.event.ensures.takes
