use Rattle.std.proofs.Common.{rules}
use Rattle.vc_joins.specs.Question.{right_spelling}
use Rattle.vc_joins.proofs.Functions.{joins-of_functions}
use Rattle.vc_btree_maps.proofs.Values.{leaves-outer, on-ok}
use Rattle.vc_btree_maps.proofs.btree_map.BTreeMapInPlaceRelationalOps.outer_join_with.Goals as goal

pub returns-clause-function : goal.returns-clause-function
returns-clause-function g c = search (rules, joins-of_functions, on-ok)

pub returns-clause-values : goal.returns-clause-values
returns-clause-values g c = on-ok c.join_outer_with.result
    (leaves-outer g.K.Ord.cmp right_spelling _ _ _ c.args.f g.F.Fn g.G.Fn c.args.other_alone) (returns-clause-function g c)
