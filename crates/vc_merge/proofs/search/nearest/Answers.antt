use Rattle.std.proofs.Common.{arith}
use Rattle.vc_merge.proofs.PlaceLemmas.{ordered-rest, rest-rest}
use Rattle.vc_merge.proofs.search.nearest.Goals as goal

pub nearest_quarter-passed-requires-clause-ordered : goal.nearest_quarter-passed-requires-clause-ordered
nearest_quarter-passed-requires-clause-ordered g c = ordered-rest _ _ _ _ c.requires.ordered c.quarters.invariant.rest

pub quarters-preserved : goal.quarters-preserved
quarters-preserved g c =
    let long = c.quarters-test.true in
    record {
      rest = rest-rest _ _ _ _ _ _ c.quarters.invariant.rest c.nearest_quarter-passed.ensures.rest;
      some = omega (arith, c.nearest_quarter-passed.ensures.shorter);
    }

pub nearest_of_few-passed-requires-clause-ordered : goal.nearest_of_few-passed-requires-clause-ordered
nearest_of_few-passed-requires-clause-ordered g c = ordered-rest _ _ _ _ c.requires.ordered c.quarters.invariant.rest

pub returns-clause-rest : goal.returns-clause-rest
returns-clause-rest g c = rest-rest _ _ _ _ _ _ c.quarters.invariant.rest c.nearest_of_few-passed.ensures.rest
