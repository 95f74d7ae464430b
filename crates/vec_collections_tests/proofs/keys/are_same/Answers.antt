-- Equality of trees is equality of their maps, by its clause.
use Rattle.vec_collections_tests.proofs.keys.are_same.Goals as goal

pub returns : goal.returns
returns c = c.eq.ensures.maps
