use Rattle.std.proofs.Common.{rules}
use Rattle.vc_joins.specs.Question.{right_spelling}
use Rattle.vc_joins.proofs.Functions.{joins-of_functions}
use Rattle.vc_btree_maps.specs.Keeping.{MayLeaveShared}
use Rattle.vc_btree_maps.proofs.Staying.{right-of_shared}
use Rattle.vc_btree_maps.proofs.Values.{leaves-right}
use Rattle.vc_btree_maps.proofs.btree_map.BTreeMapInPlaceRelationalOps.right_join_with.Goals as goal

pub returns-clause-joins : goal.returns-clause-joins
returns-clause-joins g c = right-of_shared g.K.Ord.cmp (MayLeaveShared g.F.Fn c.args.f) _ _ _ c.keep_right.ensures

pub returns-clause-function : goal.returns-clause-function
returns-clause-function g c = search (rules, joins-of_functions)

pub returns-clause-values : goal.returns-clause-values
returns-clause-values g c = leaves-right g.K.Ord.cmp right_spelling _ _ _ c.args.f g.F.Fn (returns-clause-function g c)
