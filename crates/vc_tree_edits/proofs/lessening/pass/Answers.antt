-- The run moved down, or stays where it is.
use Rattle.std.proofs.Common.{◌≡◌, ap, ◌∙◌, refl, length, arith}
use Rattle.std.proofs.Math.Seq.{take-add}
use Rattle.vc_tree_edits.proofs.Placed.{whole-back}
use Rattle.vc_tree_edits.proofs.lessening.pass.Goals.{then-kept-at, else-kept-at}
use Rattle.vc_tree_edits.proofs.lessening.pass.Goals as goal

pub returns-clause-built : goal.returns-clause-built
returns-clause-built g c = rw c.if-not-stay.false (elim c.if-kept-at.branch [
  | then-kept-at w ↦
      let value = w.deref_mut.ensures.value in
      let moved = w.move_down.ensures in
      let all : c.args.list.now.len ≡ length c.args.list.now.items = omega (arith, c.args.list.now.ok.0) in
      let back =
      whole-back c.args.list.now.len c.args.list.now.items w.move_down.new.list all (moved.same_length ∙ ap length value) in
      rw (w.list-is, back, moved.front, value) refl
  | else-kept-at w ↦
      let e : c.args.kept ≡ c.args.at = omega (arith, w.if-kept-at.false, c.requires.order) in
      rw (w.list-is, e) (take-add c.args.at c.args.n c.args.list.now.items)
])
