-- The trees in the order of the components that they continue with.
use Rattle.std.proofs.Common.{sym, ◌∙◌}
use Rattle.vc_tree_model.specs.Look.{values}
use Rattle.vc_tree_facing.proofs.Leaving.{if-ok}
use Rattle.vc_tree_edits.specs.Appended.{IsAppendedAt}
use Rattle.vc_tree_edits.proofs.Appended.{stays-whole}
use Rattle.vc_tree_edits.proofs.Beside.{comes-first, stays-first}
use Rattle.vc_tree_edits.proofs.appending.in_order.Goals as goal

pub returns-in-Less : goal.returns-in-Less
returns-in-Less g c =
    let tree = g.T.RadixNode.tree in
    if-ok c.two.result
    (λ kids e right_wins. comes-first tree tree c.args.from c.args.right_from (values g.K.Ord.cmp)
    (IsAppendedAt g.T.Build.keeps right_wins) tt g.met.K.Ord.total c.args.tree c.args.that c.requires.left c.requires.right
    (stays-whole g.T.Build.keeps right_wins c.in_ok-left.ensures) c.in_ok-comer.ensures
    (sym c.compare_at-order.ensures.order ∙ c.in-Less.is) e) c.two.ensures

pub returns-in_default : goal.returns-in_default
returns-in_default g c =
    let tree = g.T.RadixNode.tree in
    if-ok c.two-in_default.result
    (λ kids e right_wins. stays-first tree tree c.args.from c.args.right_from (values g.K.Ord.cmp)
    (IsAppendedAt g.T.Build.keeps right_wins) tt g.met.K.Ord.total c.args.tree c.args.that c.requires.left c.requires.right
    (stays-whole g.T.Build.keeps right_wins c.in_ok-left.ensures) c.in_ok-comer.ensures
    (λ k. c.in_default.not-Less (c.compare_at-order.ensures.order ∙ k)) c.requires.apart e) c.two-in_default.ensures
