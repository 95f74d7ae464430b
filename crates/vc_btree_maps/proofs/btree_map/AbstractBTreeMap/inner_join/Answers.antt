use Rattle.std.proofs.Common.{rules}
use Rattle.vc_joins.specs.declared.question.JoinKind.TheVariants as kind
use Rattle.vc_joins.specs.Question.{right_spelling}
use Rattle.vc_btree_maps.proofs.Asking.{asked-by_kind}
use Rattle.vc_joins.proofs.Functions.{joins-of_functions}
use Rattle.vc_joins.proofs.Values.{answers-inner}
use Rattle.vc_btree_maps.proofs.Values.{if-ok}
use Rattle.vc_btree_maps.proofs.btree_map.AbstractBTreeMap.inner_join.Goals as goal

pub join_inner-requires-clause-takes : goal.join_inner-requires-clause-takes
join_inner-requires-clause-takes g c =
    λ a h. (asked-by_kind kind.Inner right_spelling g.K.Ord.cmp _ _ a h, c.requires.callable a h)

pub returns-clause-function : goal.returns-clause-function
returns-clause-function g c = search (rules, if-ok, joins-of_functions)

pub returns-clause-values : goal.returns-clause-values
returns-clause-values g c =
    if-ok c.join_inner.result (λ m. answers-inner g.K.Ord.cmp right_spelling _ _ _ c.args.f g.F.Fn) (returns-clause-function g c)
