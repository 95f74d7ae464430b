-- A node with a value, or with at least two children, stays as it is.
use Rattle.std.proofs.Common.{sym, ◌∙◌, ap, Some, rules, arith}
use Rattle.std.proofs.lemmas.List.{map-append}
use Rattle.vc_tree_facing.proofs.Opening.{whole-of}
use Rattle.vc_tree_combines.proofs.adding.finish_onto.Goals as goal

pub new_node-requires : goal.new_node-requires
new_node-requires g c =
    ((whole-of g.M.RadixNode.tree c.args.prefix.now c.args.value c.args.kids.items (λ e. grind arith)).1, c.requires)

pub returns : goal.returns
returns g c =
    let child = (whole-of g.M.RadixNode.tree c.args.prefix.now c.args.value c.args.kids.items (λ e. search rules)).0
    ∙ sym (ap Some c.in_ok-new_node.ensures) in
    rw (child, c.push_reserved-2.ensures.items, c.in_ok-reserve-2.ensures.items)
    (map-append g.M.RadixNode.tree c.args.made.now.items _)
