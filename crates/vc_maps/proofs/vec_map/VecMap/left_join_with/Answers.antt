use Rattle.std.proofs.Common.{refl}
use Rattle.vc_joins.specs.declared.question.JoinKind.TheVariants.{Left}
use Rattle.vc_joins.specs.Question.{left_spelling}
use Rattle.vc_joins.proofs.Values.{turns-left}
use Rattle.vc_maps.proofs.Asking.{functions-join, at-ok}
use Rattle.vc_maps.proofs.vec_map.VecMap.left_join_with.Goals as goal

pub returns-clause-joins : goal.returns-clause-joins
returns-clause-joins g c = rw (c.self.view_is, c.as_slice.ensures.pairs) at
    (at-ok c.join.result (c.join.ensures.no_memory refl) c.join.ensures.joins)

pub returns-clause-function : goal.returns-clause-function
returns-clause-function g c = functions-join g.K.Ord.cmp Left (returns-clause-joins g c)

pub invariant_of-self : goal.invariant_of-self
invariant_of-self g c = (returns-clause-joins g c).ascends

pub returns-clause-values : goal.returns-clause-values
returns-clause-values g c = turns-left g.K.Ord.cmp left_spelling _ _ _ c.args.f g.F.Fn (returns-clause-function g c)
