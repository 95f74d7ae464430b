-- A place stands behind the others, where there are children.
use Rattle.std.proofs.Common.{◌++◌, ◌∙◌, sym, ap}
use Rattle.vc_tree_walks.proofs.Paths.{opened-some}
use Rattle.vc_tree_walks.proofs.owned.Way.open.Goals as goal

pub returns-clause-path : goal.returns-clause-path
returns-clause-path g c =
    c.in_ok-push.ensures.items
    ∙ ap (λ xs. c.args.self.now.path.items ++ xs)
    (sym (opened-some g.T.RadixNode.tree c.children.result.now (g.T.RadixNode.tree c.args.node.now) c.args.base
    c.children.ensures (sym c.if-is_empty.ensures)))
