-- The walk of a canonical tree is that of its map.
use Rattle.vc_tree_walks.proofs.WholeWalks.{walk-of_tree}
use Rattle.vc_tree_walks.proofs.walks.into_iter.Goals as goal

pub returns-clause-ascending : goal.returns-clause-ascending
returns-clause-ascending g c =
    walk-of_tree g.K.Ord.cmp g.met.K.Ord.total (g.T.RadixNode.tree c.args.tree) c.canonical.ensures _ c.new.ensures
