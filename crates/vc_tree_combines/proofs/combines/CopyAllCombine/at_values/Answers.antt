-- A clone of the left value is a copy of it.
use Rattle.std.proofs.Common.{◌≡◌, Some, rules}
use Rattle.vc_tree_combines.proofs.Alone.{ok-copies}
use Rattle.vc_tree_combines.proofs.combines.CopyAllCombine.at_values.Goals as goal

pub returns-in-Some : goal.returns-in-Some
returns-in-Some g c =
    let e : c.args.v ≡ Some c.in-Some.v = search rules in
    rw e (ok-copies g.V.Clone.is_clone (Some c.in-Some.v.now) c.clone_value.result c.clone_value.ensures)
