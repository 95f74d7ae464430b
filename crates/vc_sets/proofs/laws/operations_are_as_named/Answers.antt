use Rattle.vc_sets.proofs.OneSet.{in-each_way, operations-in_words, union-keeps_the_left}
use Rattle.vc_sets.proofs.laws.operations_are_as_named.Goals as goal

pub returns-clause-members : goal.returns-clause-members
returns-clause-members g c = in-each_way g.T.Clone.is_clone _ (operations-in_words g.T.Ord.cmp g.met.T.Ord.total)

pub returns-clause-kept : goal.returns-clause-kept
returns-clause-kept g c = in-each_way g.T.Clone.is_clone _ (union-keeps_the_left g.T.Ord.cmp g.met.T.Ord.total)
