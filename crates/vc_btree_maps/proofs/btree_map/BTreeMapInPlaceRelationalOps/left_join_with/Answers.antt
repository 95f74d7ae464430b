use Rattle.vc_joins.specs.declared.question.JoinKind.TheVariants.{Left}
use Rattle.vc_joins.specs.Join.{MovedKey}
use Rattle.vc_joins.specs.Question.{left_spelling}
use Rattle.vc_joins.proofs.Functions.{joins-of_functions}
use Rattle.vc_btree_maps.specs.Keeping.{MayLeave}
use Rattle.vc_btree_maps.proofs.Values.{leaves-left}
use Rattle.vc_btree_maps.proofs.btree_map.BTreeMapInPlaceRelationalOps.left_join_with.Goals as goal

pub returns-clause-function : goal.returns-clause-function
returns-clause-function g c = joins-of_functions g.K.Ord.cmp
    (MayLeave g.F.Fn c.args.f) MovedKey Left left_spelling _ _ _ c.keep_each.ensures

pub returns-clause-values : goal.returns-clause-values
returns-clause-values g c = leaves-left g.K.Ord.cmp left_spelling _ _ _ c.args.f g.F.Fn (returns-clause-function g c)
