use Rattle.std.proofs.Common.{Some}
use Rattle.vec_collections_tests.proofs.maps.clear_desk.Goals as goal

pub returns-clause-was : goal.returns-clause-was
returns-clause-was c = λ user h. c.remove_by.ensures.equal (Some user) h

pub returns-clause-desks : goal.returns-clause-desks
returns-clause-desks c = λ user. c.remove_by.ensures.values (Some user)
