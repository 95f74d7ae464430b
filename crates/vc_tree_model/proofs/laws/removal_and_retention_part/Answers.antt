use Rattle.vc_tree_model.proofs.Covering.{removal-retention}
use Rattle.vc_tree_model.proofs.laws.removal_and_retention_part.Goals as goal

pub returns : goal.returns
returns g c = removal-retention g.M.Matching.matches _
