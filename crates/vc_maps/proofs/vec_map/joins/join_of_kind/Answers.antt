use Rattle.vc_joins.specs.Question.{left_spelling}
use Rattle.vc_joins.proofs.Values.{answers-kind}
use Rattle.vc_maps.proofs.Asking.{functions-join}
use Rattle.vc_maps.proofs.vec_map.joins.join_of_kind.Goals as goal

pub returns-in_err-pairs-clause-counted : goal.returns-in_err-pairs-clause-counted
returns-in_err-pairs-clause-counted g c =
    rw (c.as_slice-this.ensures.pairs, c.as_slice-that.ensures.pairs) at c.join.ensures.counted

pub returns-clause-counted : goal.returns-clause-counted
returns-clause-counted g c = rw (c.as_slice-this.ensures.pairs, c.as_slice-that.ensures.pairs) at c.join.ensures.counted

pub returns-clause-joins : goal.returns-clause-joins
returns-clause-joins g c = rw (c.as_slice-this.ensures.pairs, c.as_slice-that.ensures.pairs) at c.in_ok-pairs.ensures.joins

pub returns-clause-function : goal.returns-clause-function
returns-clause-function g c = functions-join g.K.Ord.cmp c.args.kind (returns-clause-joins g c)

pub returns-clause-values : goal.returns-clause-values
returns-clause-values g c = answers-kind g.K.Ord.cmp left_spelling _ _ _ c.args.f c.args.kind g.F.Fn (returns-clause-function g c)
