-- The way ends where no key below can be a prefix, and goes on to the child that begins as the rest of the path does.
use Rattle.std.proofs.Common.{◌-◌, length, sym, rules}
use Rattle.vc_tree_nodes.proofs.Longest.{left-within, decided-above, decided-below, covers-empty, covers-none}
use Rattle.vc_tree_nodes.proofs.Longest.{covers-child}
use Rattle.vc_tree_nodes.proofs.descent.longest_on.Goals as goal

pub overflow_sub-path : goal.overflow_sub-path
overflow_sub-path g c =
    left-within g.K.Ord.cmp c.args.path.now c.loop-left.rest.now c.prefix.result.now c.in-Some.left.now
    c.loop-left.invariant.0.within (sym c.in-Some.ensures.rest)

pub returns : goal.returns
returns g c =
    decided-above g.K.Ord.cmp c.loop-left.invariant.0 c.prefix.ensures.value c.prefix.ensures.canonical.1
    (sym c.in_default.ensures.rest)

pub returns-in_default-first : goal.returns-in_default-first
returns-in_default-first g c =
    let node = g.T.RadixNode.tree c.loop-left.node.now in
    let count = length c.args.path.now - length c.in-Some.left.now in
    sym (decided-below g.K.Ord.cmp c.loop-left.invariant.0 c.prefix.ensures.value c.prefix.ensures.canonical.1
    (sym c.in-Some.ensures.rest) (λ i. node.children) c.own_or-longest.ensures
    (covers-empty g.K.Ord.cmp node.children c.prefix.ensures.canonical.1 count c.in-Some.left.now
    (sym c.in_default-first.ensures.value)))

pub returns-in_default-child_at : goal.returns-in_default-child_at
returns-in_default-child_at g c =
    let count = length c.args.path.now - length c.in-Some.left.now in
    let children = rw (← c.children.ensures) at c.prefix.ensures.canonical.1 in
    sym (decided-below g.K.Ord.cmp c.loop-left.invariant.0 c.prefix.ensures.value c.prefix.ensures.canonical.1
    (sym c.in-Some.ensures.rest) c.children.ensures c.own_or-longest.ensures
    (covers-none g.K.Ord.cmp _ children count c.in-Some-first.first.now c.in-Some.left.now
    (sym c.in-Some-first.ensures.value) c.in_default-child_at.ensures.child))

pub loop-left-preserved : goal.loop-left-preserved
loop-left-preserved g c =
    let child = g.T.RadixNode.tree c.in-Some-child_at.child.now in
    let count = length c.args.path.now - length c.in-Some.left.now in
    let children = rw (← c.children.ensures) at c.prefix.ensures.canonical.1 in (
      record {
        within =
            left-within g.K.Ord.cmp c.args.path.now c.loop-left.rest.now c.prefix.result.now c.in-Some.left.now
            c.loop-left.invariant.0.within (sym c.in-Some.ensures.rest);
        decides =
            decided-below g.K.Ord.cmp c.loop-left.invariant.0 c.prefix.ensures.value c.prefix.ensures.canonical.1
            (sym c.in-Some.ensures.rest) c.children.ensures c.own_or-longest.ensures
            (covers-child g.K.Ord.cmp _ children count c.in-Some-first.first.now c.in-Some.left.now child
            (sym c.in-Some-first.ensures.value) c.in-Some-child_at.ensures.child);
      },
      search rules,
    )
