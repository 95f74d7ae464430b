use Rattle.std.proofs.Common.{rules}
use Rattle.vc_joins.specs.declared.question.JoinKind.TheVariants as kind
use Rattle.vc_joins.specs.Question.{right_spelling}
use Rattle.vc_btree_maps.proofs.Asking.{asked-by_kind}
use Rattle.vc_joins.proofs.Functions.{joins-of_functions}
use Rattle.vc_joins.proofs.Values.{answers-right}
use Rattle.vc_btree_maps.proofs.Values.{if-ok}
use Rattle.vc_btree_maps.proofs.btree_map.AbstractBTreeMap.right_join.Goals as goal

pub join_right-requires-clause-takes : goal.join_right-requires-clause-takes
join_right-requires-clause-takes g c =
    λ a h. (asked-by_kind kind.Right right_spelling g.K.Ord.cmp _ _ a h, c.requires.callable a h)

pub returns-clause-function : goal.returns-clause-function
returns-clause-function g c = search (rules, if-ok, joins-of_functions)

pub returns-clause-values : goal.returns-clause-values
returns-clause-values g c =
    if-ok c.join_right.result (λ m. answers-right g.K.Ord.cmp right_spelling _ _ _ c.args.f g.F.Fn) (returns-clause-function g c)
