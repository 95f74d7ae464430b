-- A node with a value, or with at least two children, stays as it is.
use Rattle.std.proofs.Common.{sym, ◌∙◌, ap, arith, map, Some, rules}
use Rattle.vc_tree_model.specs.Tree.{made}
use Rattle.vc_tree_facing.proofs.Opening.{whole-of}
use Rattle.vc_tree_edits.proofs.engine.finish_in.Goals as goal

pub assemble-requires : goal.assemble-requires
assemble-requires g c =
    let p = g.T.Prefix.Fragment.items c.args.prefix in
    rw c.in_ok-children.ensures
    ((whole-of g.T.RadixNode.tree p c.args.value c.args.kids.items (λ e. grind arith)).1, c.requires)

pub returns : goal.returns
returns g c =
    let p = g.T.Prefix.Fragment.items c.args.prefix in
    ap Some (c.assemble.ensures ∙ ap (λ l. made p c.args.value (map g.T.RadixNode.tree l)) c.in_ok-children.ensures)
    ∙ sym (whole-of g.T.RadixNode.tree p c.args.value c.args.kids.items (λ e. search rules)).0
