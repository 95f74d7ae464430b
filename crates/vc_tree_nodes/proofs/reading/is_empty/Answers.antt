-- The answer is that of a node with no value.
use Rattle.std.proofs.Common.{sym, ◌∙◌, ap}
use Rattle.std.specs.Option.{option_copied}
use Rattle.vc_tree_nodes.proofs.Bareness.{is_bare-by}
use Rattle.vc_tree_nodes.proofs.reading.is_empty.Goals as goal

pub returns-in-None : goal.returns-in-None
returns-in-None g c =
    let t = g.T.RadixNode.tree c.args.tree.now in
    c.is_empty.ensures
    ∙ is_bare-by g.T.RadixNode.tree c.children.result.now t.prefix t.value t.children
    (sym (ap option_copied c.in-None.is) ∙ c.value.ensures) c.children.ensures
