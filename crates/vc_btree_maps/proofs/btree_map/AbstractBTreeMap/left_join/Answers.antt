use Rattle.std.proofs.Common.{rules}
use Rattle.vc_joins.specs.declared.question.JoinKind.TheVariants as kind
use Rattle.vc_joins.specs.Question.{left_spelling}
use Rattle.vc_btree_maps.proofs.Asking.{asked-by_kind}
use Rattle.vc_joins.proofs.Functions.{joins-of_functions}
use Rattle.vc_joins.proofs.Values.{answers-left}
use Rattle.vc_btree_maps.proofs.Values.{if-ok}
use Rattle.vc_btree_maps.proofs.btree_map.AbstractBTreeMap.left_join.Goals as goal

pub join_left-requires-clause-takes : goal.join_left-requires-clause-takes
join_left-requires-clause-takes g c = λ a h. (asked-by_kind kind.Left left_spelling g.K.Ord.cmp _ _ a h, c.requires.callable a h)

pub returns-clause-function : goal.returns-clause-function
returns-clause-function g c = search (rules, if-ok, joins-of_functions)

pub returns-clause-values : goal.returns-clause-values
returns-clause-values g c =
    if-ok c.join_left.result (λ m. answers-left g.K.Ord.cmp left_spelling _ _ _ c.args.f g.F.Fn) (returns-clause-function g c)
