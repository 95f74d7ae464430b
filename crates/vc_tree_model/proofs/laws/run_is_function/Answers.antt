use Rattle.vc_tree_model.proofs.Running.{run-is_function}
use Rattle.vc_tree_model.proofs.laws.run_is_function.Goals as goal

pub returns : goal.returns
returns g c = run-is_function g.K.Ord.cmp g.V.Clone.is_clone
