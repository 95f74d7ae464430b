use Rattle.vc_merge.specs.Yielded.{by_first}
use Rattle.vc_merge.proofs.ListLemmas.{AscendsBelow}
use Rattle.vc_merge.proofs.iterators.ascends_by_key.Given as goal

abbrev pub invariant-loop-at : goal.invariant-loop-at
invariant-loop-at g l = AscendsBelow (by_first g.K.Ord.cmp) l.list l.at
