use Rattle.vc_joins.specs.declared.question.JoinKind.TheVariants.{Inner}
use Rattle.vc_joins.specs.Join.{MovedKey}
use Rattle.vc_joins.specs.Question.{left_spelling}
use Rattle.vc_joins.proofs.Functions.{joins-of_functions}
use Rattle.vc_btree_maps.specs.Keeping.{MayLeaveShared}
use Rattle.vc_btree_maps.proofs.Staying.{inner-of_left, inner-asks}
use Rattle.vc_btree_maps.proofs.Values.{leaves-inner}
use Rattle.vc_btree_maps.proofs.btree_map.BTreeMapInPlaceRelationalOps.inner_join_with.Goals as goal

pub keep_each-requires : goal.keep_each-requires
keep_each-requires g c = record
    { takes = λ a h k v w e. c.requires.callable k v w (inner-asks g.K.Ord.cmp (MayLeaveShared g.F.Fn c.args.f) _ _ a _ _ _ e h) }

pub returns-clause-joins : goal.returns-clause-joins
returns-clause-joins g c = inner-of_left g.K.Ord.cmp (MayLeaveShared g.F.Fn c.args.f) _ _ _ c.keep_each.ensures

pub returns-clause-function : goal.returns-clause-function
returns-clause-function g c =
    joins-of_functions g.K.Ord.cmp (MayLeaveShared g.F.Fn c.args.f) MovedKey Inner left_spelling _ _ _
    (inner-of_left g.K.Ord.cmp (MayLeaveShared g.F.Fn c.args.f) _ _ _ c.keep_each.ensures)

pub returns-clause-values : goal.returns-clause-values
returns-clause-values g c = leaves-inner g.K.Ord.cmp left_spelling _ _ _ c.args.f g.F.Fn (returns-clause-function g c)
