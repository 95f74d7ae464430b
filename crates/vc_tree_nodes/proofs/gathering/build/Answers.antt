-- The run is one behind no components.
use Rattle.std.proofs.Common.{◌<◌, length, arith}
use Rattle.std.proofs.lemmas.Result.{IfOk-weaker}
use Rattle.vc_tree_nodes.proofs.Runs.{ascending-run}
use Rattle.vc_tree_nodes.proofs.gathering.build.Goals as goal

pub build_run-requires-clause-run : goal.build_run-requires-clause-run
build_run-requires-clause-run g c =
    let some : 0 < length c.args.run.items = grind (arith, c.is_empty.ensures, c.if-is_empty.false, c.args.run.ok.0) in
    rw c.as_slice.ensures.value (ascending-run g.K.Ord.cmp (λ s. g.S.Spelled.components s.key) (λ s. s.common)
    c.args.run.items some c.requires.ascends)

pub returns : goal.returns
returns g c =
    IfOk-weaker c.build_run.result _ _
    (λ t built. rw (c.as_slice.ensures.value, c.into_iter.ensures.rest) at built.pairs) c.build_run.ensures.built
