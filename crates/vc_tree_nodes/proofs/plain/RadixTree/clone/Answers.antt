-- Alike trees bind the same keys.
use Rattle.std.proofs.lemmas.Result.{IfOk-weaker}
use Rattle.vc_tree_model.proofs.AlikeLemmas.{tree-alike_lookup}
use Rattle.vc_tree_nodes.proofs.plain.RadixTree.clone.Goals as goal

pub returns-clause-map : goal.returns-clause-map
returns-clause-map g c =
    IfOk-weaker c.copy_shortened.result _ _ (tree-alike_lookup g.V.Clone.is_clone g.K.Ord.cmp c.args.self.now)
    c.copy_shortened.ensures.alike
