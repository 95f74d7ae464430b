-- The way down to the pair, and what is counted on it.
use Rattle.std.proofs.Common.{◌++◌, ◌+◌, ◌∙◌, ap, sym, length, min, arith}
use Rattle.std.specs.Option.{option_map}
use Rattle.vc_tree_walks.specs.Towards.{own_end, sized_pair}
use Rattle.vc_tree_walks.proofs.EndPairs.{longer, own-sized, reaches-child, reaches-itself, reaches-own, within}
use Rattle.vc_tree_walks.proofs.ends.value_at.Goals as goal

pub loop-child-init : goal.loop-child-init
loop-child-init g c =
    let t = g.T.RadixNode.tree c.args.tree.now in (
      t.prefix,
      reaches-itself c.args.end t,
      within _ t.prefix 18446744073709551615 c.prefix-length.ensures.value (omega (arith, c.prefix-length.type_inv.0)),
    )

pub loop-child-smaller : goal.loop-child-smaller
loop-child-smaller g c = (c.in-Some.ensures).fewer

pub loop-child-preserved : goal.loop-child-preserved
loop-child-preserved g c =
    let tree = g.T.RadixNode.tree in
    let inv = c.loop-child.invariant in
    let child = tree c.in-Some.child.now in (
      inv.0 ++ child.prefix,
      reaches-child c.args.end (tree c.args.tree.now) (tree c.loop-child.node.now) child inv.0 inv.1 c.in-Some.ensures,
      c.saturating_add-length.ensures
          ∙ ap (λ p. min (c.loop-child.length + length p) 18446744073709551615) c.prefix.ensures.value
          ∙ longer inv.0 child.prefix c.loop-child.length 18446744073709551615 inv.2,
    )

pub returns-in-Some-value : goal.returns-in-Some-value
returns-in-Some-value g c =
    let tree = g.T.RadixNode.tree in
    let n = tree c.loop-child.node.now in
    let inv = c.loop-child.invariant in
    own-sized inv.0 n.value c.in-Some-value.value.now c.loop-child.length (sym c.in-Some-value.ensures) inv.2
    ∙ sym (ap (option_map sized_pair) (reaches-own c.args.end (tree c.args.tree.now) n inv.0 inv.1 c.in_default.ensures))

pub returns-in-None : goal.returns-in-None
returns-in-None g c =
    let tree = g.T.RadixNode.tree in
    let n = tree c.loop-child.node.now in
    let inv = c.loop-child.invariant in
    ap (λ v. option_map sized_pair (own_end inv.0 v)) c.in-None.ensures
    ∙ sym (ap (option_map sized_pair) (reaches-own c.args.end (tree c.args.tree.now) n inv.0 inv.1 c.in_default.ensures))
