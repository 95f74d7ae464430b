-- Children are in order to a component.
use Rattle.vc_tree_nodes.proofs.Firsts.{children-ordered}
use Rattle.vc_tree_edits.proofs.pairs.place_among.Goals as goal

pub search-requires : goal.search-requires
search-requires g c =
    children-ordered g.K.Ord.cmp g.T.RadixNode.tree c.args.component.now g.met.K.Ord.total c.args.children.now c.requires
