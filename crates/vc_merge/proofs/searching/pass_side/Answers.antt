use Rattle.vc_merge.proofs.Chains.{so_far-none, goes_on-next}
use Rattle.vc_merge.proofs.searching.pass_side.Goals as goal

pub returns-then-n-eq0-clause-goes_on : goal.returns-then-n-eq0-clause-goes_on
returns-then-n-eq0-clause-goes_on g c = so_far-none _ _ _ c.requires.ascend

pub returns-in-Left-clause-goes_on : goal.returns-in-Left-clause-goes_on
returns-in-Left-clause-goes_on g c = goes_on-next _ _ _ c.requires.ascend c.pass_left.ensures.next

pub returns-in-Right-clause-goes_on : goal.returns-in-Right-clause-goes_on
returns-in-Right-clause-goes_on g c = goes_on-next _ _ _ c.requires.ascend c.pass_right.ensures.next
