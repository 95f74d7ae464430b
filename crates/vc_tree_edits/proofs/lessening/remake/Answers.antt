-- A node with a value, or with at least two children, stays as it is.
use Rattle.std.proofs.Common.{◌≡◌, ◌≤◌, sym, ap, ◌∙◌, Some, is_none, true, length, true≢false, rules}
use Rattle.vc_tree_facing.proofs.Opening.{whole-of}
use Rattle.vc_tree_nodes.specs.Children.{listed}
use Rattle.vc_tree_edits.proofs.Placed.{two-stored}
use Rattle.vc_tree_edits.proofs.lessening.remake.Goals.{else-is_none-via-then-is_none+else-many-eq0}
use Rattle.vc_tree_edits.proofs.lessening.remake.Goals.{else-is_none-via-else-is_none}
use Rattle.vc_tree_edits.proofs.lessening.remake.Goals as goal

pub assemble-requires : goal.assemble-requires
assemble-requires g c =
    let list = listed g.T.Children.ChildList.items c.args.kids.stored in
    let two : is_none c.args.value ≡ true → 2 ≤ length list = λ e. elim c.else-is_none.branch [
      | else-is_none-via-then-is_none+else-many-eq0 w ↦
          two-stored _ _ _ _ c.requires.kids c.in_default.is e w.if-many-eq0.false
      | else-is_none-via-else-is_none w ↦ absurd (true≢false (sym e ∙ search rules))
    ] in
    let whole = whole-of g.T.RadixNode.tree (g.T.Prefix.Fragment.items c.args.prefix) c.args.value list two in
    (whole.1, rw c.in_default.is at c.requires.canonical)

pub returns : goal.returns
returns g c =
    let p = g.T.Prefix.Fragment.items c.args.prefix in
    let list = listed g.T.Children.ChildList.items c.args.kids.stored in
    let two : is_none c.args.value ≡ true → 2 ≤ length list = λ e. elim c.else-is_none.branch [
      | else-is_none-via-then-is_none+else-many-eq0 w ↦
          two-stored _ _ _ _ c.requires.kids c.in_default.is e w.if-many-eq0.false
      | else-is_none-via-else-is_none w ↦ absurd (true≢false (sym e ∙ search rules))
    ] in
    rw c.in_default.is (ap Some c.assemble.ensures ∙ sym (whole-of g.T.RadixNode.tree p c.args.value list two).0)
