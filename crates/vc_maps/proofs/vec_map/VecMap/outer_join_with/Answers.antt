use Rattle.vc_joins.specs.declared.question.JoinKind.TheVariants.{Outer}
use Rattle.vc_joins.specs.Question.{left_spelling}
use Rattle.vc_joins.proofs.Values.{turns-outer}
use Rattle.vc_merge.proofs.Parted.{on-ok}
use Rattle.vc_maps.proofs.Asking.{functions-join, join-ascends}
use Rattle.vc_maps.proofs.vec_map.VecMap.outer_join_with.Goals as goal

pub returns-clause-joins : goal.returns-clause-joins
returns-clause-joins g c = rw (c.self.view_is, c.as_slice.ensures.pairs) at c.join.ensures.joins

pub returns-clause-function : goal.returns-clause-function
returns-clause-function g c = on-ok c.join.result _ _ (functions-join g.K.Ord.cmp Outer) (returns-clause-joins g c)

pub invariant_of-self : goal.invariant_of-self
invariant_of-self g c =
    join-ascends g.K.Ord.cmp Outer _ _ c.join.result _ _ _ c.join.ensures.joins c.join.ensures.err c.self.invariant

pub returns-clause-values : goal.returns-clause-values
returns-clause-values g c = on-ok c.join.result _ _ (turns-outer g.K.Ord.cmp left_spelling _ _ _ c.args.f g.F.Fn)
    (returns-clause-function g c)
