-- At each key a union has the left value, or else the right one; and a node is small.
use Rattle.std.proofs.Common.{arith}
use Rattle.vec_collections_tests.proofs.Bound.{united-at}
use Rattle.vec_collections_tests.proofs.one_tree.united_and_listed.Goals as goal

pub allocator-requires : goal.allocator-requires
allocator-requires c = omega arith

pub returns-clause-united : goal.returns-clause-united
returns-clause-united c = λ k. united-at _ _ _ (c.in_ok-united.ensures.made k)
