-- Nothing stands before the keys of the tree.
use Rattle.std.proofs.Common.{◌∙◌}
use Rattle.vc_tree_model.specs.Walk.{walk}
use Rattle.vc_tree_walks.proofs.WholeWalks.{prepended-empty, walk-of_tree}
use Rattle.vc_tree_walks.proofs.walks.iter.Goals as goal

pub returns-clause-all : goal.returns-clause-all
returns-clause-all g c = c.new.ensures.pairs ∙ prepended-empty (walk (g.T.RadixNode.tree c.args.tree.now))

pub returns-clause-ascending : goal.returns-clause-ascending
returns-clause-ascending g c =
    let t = g.T.RadixNode.tree c.args.tree.now in
    walk-of_tree g.K.Ord.cmp g.met.K.Ord.total t c.canonical.ensures _ (c.new.ensures.pairs ∙ prepended-empty (walk t))
