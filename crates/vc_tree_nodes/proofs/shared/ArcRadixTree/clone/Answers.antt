-- A snapshot is alike to the tree, by copies of its values, so it binds copies.
use Rattle.std.proofs.lemmas.Result.{IfOk-weaker}
use Rattle.vc_tree_model.specs.Snapshot.{snapshot_copied}
use Rattle.vc_tree_model.specs.Value.{Copies}
use Rattle.vc_tree_model.proofs.AlikeLemmas.{tree-alike_lookup}
use Rattle.vc_tree_nodes.proofs.shared.ArcRadixTree.clone.Goals as goal

pub returns-clause-map : goal.returns-clause-map
returns-clause-map g c =
    IfOk-weaker c.snapshot.result _ _
    (λ copy s. tree-alike_lookup (Copies g.V.Clone.is_clone) g.K.Ord.cmp c.args.self.now copy
    (snapshot_copied g.V.Clone.is_clone c.args.self.now copy s)) c.snapshot.ensures.snapshot
