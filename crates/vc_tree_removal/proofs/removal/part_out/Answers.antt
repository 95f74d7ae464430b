-- The other one of two children stands in the place of a node without a value; any other node stays.
use Rattle.std.proofs.Common.{None, ◌≡◌, ◌-◌, ◌∙◌, arith, length}
use Rattle.vc_tree_removal.proofs.Putting.{out-joins, out-stays}
use Rattle.vc_tree_removal.proofs.removal.part_out.Goals.{then-is_some-via-then-is_some}
use Rattle.vc_tree_removal.proofs.removal.part_out.Goals.{then-is_some-via-else-is_some+then-len-ne2}
use Rattle.vc_tree_removal.proofs.removal.part_out.Goals as goal

pub returns-then-is_some-clause-ok : goal.returns-then-is_some-clause-ok
returns-then-is_some-clause-ok g c =
    out-stays g.T.RadixNode.tree _ c.args.own.now c.args.list.now.items c.args.i c.requires.within
    c.args.list.now.ok.0 c.requires.solid
    (λ none two. elim c.then-is_some.branch [
      | then-is_some-via-then-is_some w ↦ grind (arith, w.if-is_some.true, c.is_some.ensures, none)
      | then-is_some-via-else-is_some+then-len-ne2 w ↦ w.if-len-ne2.true (w.len.ensures ∙ c.args.list.now.ok.0 ∙ two)
    ]) c.remove.ensures.value c.remove.ensures.items

pub returns-clause-ok : goal.returns-clause-ok
returns-clause-ok g c =
    let none : c.args.own.now ≡ None = grind arith in
    let two : length c.args.list.now.items ≡ 2 = omega arith in
    rw none (out-joins g.T.RadixNode.tree _ c.args.list.now.items c.args.i (1 - c.args.i) _ _ _ two (omega arith)
    c.in_ok-whole.ensures.ok c.remove-2.ensures.value)
