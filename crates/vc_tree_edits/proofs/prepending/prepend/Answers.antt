use Rattle.std.proofs.Common.{ap, ◌∙◌}
use Rattle.vc_tree_edits.proofs.Prepended.{prepended-is}
use Rattle.vc_tree_edits.proofs.prepending.prepend.Goals as goal

pub returns-clause-ok : goal.returns-clause-ok
returns-clause-ok g c =
    let old = c.replace-node.ensures.value in
    prepended-is g.K.Ord.cmp _ _ c.assemble.ensures c.in_ok-joined.ensures c.prefix-whole.ensures.value
    (c.take_apart-value.ensures.value ∙ ap (λ x. (g.T.RadixNode.tree x).value) old)
    (c.take_apart-value.ensures.children ∙ ap (λ x. (g.T.RadixNode.tree x).children) old)
