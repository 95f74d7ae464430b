-- A tree that goes on behind the place, or the children of one that does not.
use Rattle.std.proofs.Common.{◌∙◌, sym, ap, arith, drop, refl}
use Rattle.std.proofs.Math.ListN.{drop_of_length-le}
use Rattle.vc_tree_facing.proofs.Ending.{below-children}
use Rattle.vc_tree_facing.proofs.Opening.{opened-all, opened-rest}
use Rattle.vc_tree_edits.proofs.pairs.trees_at.Goals as goal

pub returns-then-place-prefix : goal.returns-then-place-prefix
returns-then-place-prefix g c =
    let within = rw c.prefix.ensures.value at c.if-place-prefix.true in
    let opened = opened-rest g.B.RadixNode.tree c.args.tree.now 0 c.args.place (omega arith) within in
    record {
      opened = opened;
      children = below-children g.K.Ord.cmp c.args.place c.prefix.ensures.canonical opened;
      stands = (refl, refl, within);
    }

pub returns-else-place-prefix-clause-opened : goal.returns-else-place-prefix-clause-opened
returns-else-place-prefix-clause-opened g c =
    opened-all g.B.RadixNode.tree (g.B.RadixNode.tree c.args.tree.now) _ _
    (ap (drop c.args.place) (sym c.prefix.ensures.value) ∙ drop_of_length-le c.prefix.result.now c.if-place-prefix.false)
    c.children.ensures
