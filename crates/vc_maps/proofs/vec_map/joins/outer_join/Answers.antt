use Rattle.vc_joins.specs.declared.question.JoinKind.TheVariants.{Outer}
use Rattle.vc_joins.specs.Question.{left_spelling}
use Rattle.vc_joins.proofs.Values.{answers-outer}
use Rattle.vc_maps.proofs.Asking.{functions-join}
use Rattle.vc_maps.proofs.vec_map.joins.outer_join.Goals as goal

pub returns-clause-joins : goal.returns-clause-joins
returns-clause-joins g c = rw (c.as_slice-left.ensures.pairs, c.as_slice-right.ensures.pairs) at c.in_ok-pairs.ensures.joins

pub returns-clause-function : goal.returns-clause-function
returns-clause-function g c = functions-join g.K.Ord.cmp Outer (returns-clause-joins g c)

pub returns-clause-values : goal.returns-clause-values
returns-clause-values g c = answers-outer g.K.Ord.cmp left_spelling _ _ _ c.args.f g.F.Fn (returns-clause-function g c)
