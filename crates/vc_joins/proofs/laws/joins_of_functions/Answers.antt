use Rattle.vc_joins.proofs.Functions as functions
use Rattle.vc_joins.proofs.laws.joins_of_functions.Goals as goal

pub returns : goal.returns
returns g c = λ q. functions.joins-of_functions g.K.Ord.cmp _ _
