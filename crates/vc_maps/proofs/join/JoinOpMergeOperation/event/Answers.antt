use Rattle.std.proofs.Common.{sym, arith, ◌∙◌}
use Rattle.vc_maps.proofs.Asked.{heads-passed, heads-taken}
use Rattle.vc_maps.proofs.join.JoinOpMergeOperation.event.Goals as goal

pub ask_heads-requires-clause-takes : goal.ask_heads-requires-clause-takes
ask_heads-requires-clause-takes g c = let r = c.requires.ready in
    (heads-passed g.met.K.Ord.total c.args.heads _ _ r.1 c.requires.heads r.2).asked (sym c.asks_at.ensures ∙ c.if-asks_at.true)

pub pass_lesser-requires-clause-differ : goal.pass_lesser-requires-clause-differ
pass_lesser-requires-clause-differ g c = grind (arith, c.asks_at.ensures, c.if-asks_at.false)

pub returns-then-asks_at-clause-gives : goal.returns-then-asks_at-clause-gives
returns-then-asks_at-clause-gives g c =
    grind (arith, c.asks_at.ensures, c.if-asks_at.true, c.ask_heads.ensures.gives)

pub returns-then-asks_at-clause-takes : goal.returns-then-asks_at-clause-takes
returns-then-asks_at-clause-takes g c = let r = c.requires.ready in
    heads-taken g.met.K.Ord.total g.M.MergeState.left g.M.MergeState.right g.M.MergeStateMut.ready c.args.heads _ _ _
    r.1 c.requires.heads r.2 c.ask_heads.ensures.passes

pub returns-else-asks_at-clause-gives : goal.returns-else-asks_at-clause-gives
returns-else-asks_at-clause-gives g c =
    grind (arith, c.asks_at.ensures, c.if-asks_at.false, c.pass_lesser.ensures.gives)

pub returns-else-asks_at-clause-takes : goal.returns-else-asks_at-clause-takes
returns-else-asks_at-clause-takes g c = let r = c.requires.ready in
    heads-taken g.met.K.Ord.total g.M.MergeState.left g.M.MergeState.right g.M.MergeStateMut.ready c.args.heads _ _ _
    r.1 c.requires.heads r.2 c.pass_lesser.ensures.passes
