-- The copy binds what is left of the keys.
use Rattle.vc_tree_facing.proofs.Leaving.{if-ok}
use Rattle.vc_tree_combines.proofs.Alone.{shortened-binds}
use Rattle.vc_tree_combines.proofs.combines.materialize_shortened.Goals as goal

pub returns-clause-map : goal.returns-clause-map
returns-clause-map g c =
    if-ok c.copy_shortened.result
    (λ u a. shortened-binds g.K.Ord.cmp g.met.K.Ord.total g.V.Clone.is_clone c.args.n (g.A.RadixNode.tree c.args.tree.now) _ a)
    c.copy_shortened.ensures.alike
