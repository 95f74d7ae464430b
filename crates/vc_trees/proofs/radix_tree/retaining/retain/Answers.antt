-- What is left without the keys that go.
use Rattle.vc_tree_model.specs.Combine.{IsCombined, IsDifferenceAt}
use Rattle.vc_tree_nodes.proofs.Bareness.{bare-keys}
use Rattle.vc_trees.specs.RetainedPairs.{IsRetainedAsTold, MayTell}
use Rattle.vc_trees.proofs.Noting.{left-noted, none-noted, where-done}
use Rattle.vc_trees.proofs.radix_tree.retaining.retain.Goals as goal

pub returns-clause-ok : goal.returns-clause-ok
returns-clause-ok g c =
    let cmp = g.K.Ord.cmp in
    let may = MayTell g.F.Fn c.args.keep.now in
    let old = g.T.RadixNode.tree c.args.tree.now in
    let going = g.G.RadixNode.tree c.in_ok-going.going in
    let new = g.T.RadixNode.tree c.difference_with.new.tree in
    where-done c.difference_with.result (IsCombined cmp (IsDifferenceAt g.T.Build.keeps) old going new)
    (IsRetainedAsTold cmp may g.T.Build.keeps old new)
    (left-noted cmp may g.T.Build.keeps old going new c.in_ok-going.ensures) c.difference_with.ensures.ok

pub returns-then-is_empty-clause-ok : goal.returns-then-is_empty-clause-ok
returns-then-is_empty-clause-ok g c =
    let cmp = g.K.Ord.cmp in
    let going = g.G.RadixNode.tree c.in_ok-going.going in
    let none =
    rw c.if-is_empty.true at
    (bare-keys cmp g.met.K.Ord.total going c.canonical-2.ensures c.is_empty.result c.is_empty.ensures) in
    none-noted cmp (MayTell g.F.Fn c.args.keep.now) g.T.Build.keeps (g.T.RadixNode.tree c.args.tree.now)
    g.met.T.Build.keeps_refl going none c.in_ok-going.ensures
