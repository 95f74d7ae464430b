use Rattle.std.proofs.Common.{rules}
use Rattle.vc_joins.specs.Question.{left_spelling}
use Rattle.vc_joins.proofs.Functions.{joins-of_functions}
use Rattle.vc_joins.proofs.Values.{answers-outer}
use Rattle.vc_btree_maps.proofs.Values.{if-ok}
use Rattle.vc_btree_maps.proofs.btree_map.AbstractBTreeMap.outer_join.Goals as goal

pub returns-clause-function : goal.returns-clause-function
returns-clause-function g c = search (rules, if-ok, joins-of_functions)

pub returns-clause-values : goal.returns-clause-values
returns-clause-values g c =
    if-ok c.join_outer.result (λ m. answers-outer g.K.Ord.cmp left_spelling _ _ _ c.args.f g.F.Fn) (returns-clause-function g c)
