use Rattle.std.proofs.Common.{arith}
use Rattle.vc_joins.specs.Question.{left_spelling}
use Rattle.vc_joins.proofs.Values.{turns-kind}
use Rattle.vc_merge.proofs.Parted.{on-ok}
use Rattle.vc_maps.proofs.Asking.{functions-join}
use Rattle.vc_maps.proofs.vec_map.VecMap.join_with_counted.Goals as goal

pub returns-clause-joins : goal.returns-clause-joins
returns-clause-joins g c = rw (c.self.view_is, c.as_slice.ensures.pairs) at c.join-joined.ensures.joins

pub returns-clause-function : goal.returns-clause-function
returns-clause-function g c = on-ok c.join-joined.result _ _ (functions-join g.K.Ord.cmp c.args.kind) (returns-clause-joins g c)

pub returns-clause-counted : goal.returns-clause-counted
returns-clause-counted g c =
    let joined = rw (c.self.view_is, c.as_slice.ensures.pairs) at c.join-joined.ensures.counted in
    omega (arith, joined, c.new-own.ensures, c.add.ensures.sum)

pub returns-clause-values : goal.returns-clause-values
returns-clause-values g c = on-ok c.join-joined.result _ _
    (turns-kind g.K.Ord.cmp left_spelling _ _ _ c.args.f c.args.kind g.F.Fn) (returns-clause-function g c)
