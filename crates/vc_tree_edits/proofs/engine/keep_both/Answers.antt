-- The trees in the order of the components that they go on with.
use Rattle.std.proofs.Common.{sym, ◌∙◌}
use Rattle.vc_tree_facing.proofs.Leaving.{if-ok}
use Rattle.vc_tree_edits.proofs.Beside.{comes-first, stays-first}
use Rattle.vc_tree_edits.proofs.engine.keep_both.Goals as goal

pub returns-in-Less : goal.returns-in-Less
returns-in-Less g c =
    if-ok c.two.result
    (λ kids e. comes-first g.T.RadixNode.tree g.B.RadixNode.tree c.args.from c.args.right_from (g.O.Change.look g.K.Ord.cmp)
    (g.O.Change.says c.args.op.now) (g.met.O.Change.says_none c.args.op.now) g.met.K.Ord.total c.args.tree c.args.that.now
    c.requires.left c.requires.right c.in_ok-left.ensures c.in_ok-comer.ensures
    (sym c.compare_at-order.ensures.order ∙ c.in-Less.is) e) c.two.ensures

pub returns-in_default : goal.returns-in_default
returns-in_default g c =
    if-ok c.two-in_default.result
    (λ kids e. stays-first g.T.RadixNode.tree g.B.RadixNode.tree c.args.from c.args.right_from (g.O.Change.look g.K.Ord.cmp)
    (g.O.Change.says c.args.op.now) (g.met.O.Change.says_none c.args.op.now) g.met.K.Ord.total c.args.tree c.args.that.now
    c.requires.left c.requires.right c.in_ok-left.ensures c.in_ok-comer.ensures
    (λ k. c.in_default.not-Less (c.compare_at-order.ensures.order ∙ k)) c.requires.apart e) c.two-in_default.ensures
