use Rattle.vc_joins.proofs.Functions as functions
use Rattle.vc_joins.proofs.laws.kinds_are_as_named.Goals as goal

pub returns : goal.returns
returns g c = functions.kinds-are_as_named g.K.Ord.cmp
