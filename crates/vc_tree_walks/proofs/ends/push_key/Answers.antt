-- The prefix of the next node on the way stands behind the key.
use Rattle.std.proofs.Common.{◌++◌, ◌∙◌, append_assoc, ap}
use Rattle.vc_tree_walks.proofs.EndPairs.{reaches-child, reaches-itself, reaches-key}
use Rattle.vc_tree_walks.proofs.ends.push_key.Goals as goal

pub loop-child-init : goal.loop-child-init
loop-child-init g c =
    let t = g.T.RadixNode.tree c.args.tree.now in (
      t.prefix,
      reaches-itself c.args.end t,
      c.in_ok-extend_from_slice.ensures.items ∙ ap (λ p. c.args.key.now.items ++ p) c.prefix.ensures.value,
    )

pub loop-child-preserved : goal.loop-child-preserved
loop-child-preserved g c =
    let tree = g.T.RadixNode.tree in
    let inv = c.loop-child.invariant in
    let child = tree c.in-Some.child.now in
    let old = c.args.key.now.items in (
      inv.0 ++ child.prefix,
      reaches-child c.args.end (tree c.args.tree.now) (tree c.loop-child.node.now) child inv.0 inv.1 c.in-Some.ensures,
      c.in_ok-extend_from_slice-2.ensures.items ∙ ap (λ k. k ++ c.prefix-in-Some.result.now) inv.2
          ∙ ap (λ p. (old ++ inv.0) ++ p) c.prefix-in-Some.ensures.value ∙ append_assoc old inv.0 child.prefix,
    )

pub returns : goal.returns
returns g c =
    let tree = g.T.RadixNode.tree in
    let inv = c.loop-child.invariant in
    reaches-key c.args.end (tree c.args.tree.now) (tree c.loop-child.node.now) inv.0 inv.1 c.in_default.ensures
    c.args.key.now.items c.loop-child.key.items inv.2
