-- The tree that is taken out is a child.
use Rattle.std.proofs.Common.{arith}
use Rattle.vc_tree_nodes.proofs.Finding.{trees-length}
use Rattle.vc_tree_removal.proofs.Putting.{at-child, at-got}
use Rattle.vc_tree_removal.proofs.removal.lone.Goals as goal

pub with_prefix-requires : goal.with_prefix-requires
with_prefix-requires g c =
    let items = c.args.list.now.items in
    let there = at-got g.T.RadixNode.tree items c.args.i c.requires.within c.args.list.now.ok.0 c.remove.ensures.value in
    rw (← there) (at-child g.K.Ord.cmp _ c.args.i (rw (trees-length, ← c.args.list.now.ok.0) c.requires.within)
    c.requires.canonical).0

pub returns-clause-ok : goal.returns-clause-ok
returns-clause-ok g c =
    let tree = g.T.RadixNode.tree in
    let items = c.args.list.now.items in
    let at = at-got tree items c.args.i c.requires.within c.args.list.now.ok.0 c.remove.ensures.value in
    let read = at-got tree items c.args.i c.requires.within c.args.list.now.ok.0 c.index.ensures in
    grind (arith, at, read, c.with_prefix.ensures, c.in_ok-joined.ensures, c.as_slice.ensures, c.prefix.ensures.value)
