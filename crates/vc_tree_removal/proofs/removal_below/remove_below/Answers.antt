-- What begins with the prefix goes, by what is left of each key behind it.
use Rattle.vc_tree_model.specs.Key.{behind}
use Rattle.vc_tree_removal.proofs.Going.{begins-tells}
use Rattle.vc_tree_removal.proofs.Parting.{divides-without}
use Rattle.vc_tree_removal.proofs.removal_below.remove_below.Goals as goal

pub returns-clause-ok : goal.returns-clause-ok
returns-clause-ok g c =
    divides-without c.in_ok-remove_met.ensures.ok _ (λ k. begins-tells (behind g.K.Ord.cmp c.args.prefix.now k))
