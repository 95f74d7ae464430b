-- No component of the path comes before the root.
use Rattle.std.proofs.Common.{◌∙◌, sym}
use Rattle.vc_tree_model.specs.Map.{lookup}
use Rattle.vc_tree_walks.proofs.PathKeys.{along-is}
use Rattle.vc_tree_walks.proofs.prefixes.Prefixes.new.Goals as goal

pub returns : goal.returns
returns g c =
    c.enter.ensures.left
    ∙ sym (along-is (lookup g.K.Ord.cmp (g.T.RadixNode.tree c.args.tree.now)) c.args.path.now)
