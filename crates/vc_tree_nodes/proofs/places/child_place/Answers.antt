-- The children stand in order to the component, and what the search finds is its place.
use Rattle.vc_tree_nodes.proofs.Firsts.{children-ordered, place-found}
use Rattle.vc_tree_nodes.proofs.places.child_place.Goals as goal

pub search-requires : goal.search-requires
search-requires g c =
    children-ordered g.K.Ord.cmp g.T.RadixNode.tree c.args.first.now g.met.K.Ord.total c.args.children.now c.requires

pub returns-clause-place : goal.returns-clause-place
returns-clause-place g c =
    place-found g.K.Ord.cmp g.T.RadixNode.tree c.args.first.now g.met.K.Ord.total c.args.children.now c.requires
    c.search.result c.search.ensures.place
