use Rattle.std.proofs.Common.{sym, ◌∙◌}
use Rattle.vc_maps.proofs.Asked.{can-passed, lefts-passed}
use Rattle.vc_maps.proofs.join.JoinOpMergeOperation.from_a.Goals as goal

pub ask_a-requires-clause-takes : goal.ask_a-requires-clause-takes
ask_a-requires-clause-takes g c = let r = c.requires.ready in
    (lefts-passed g.met.K.Ord.total c.args.n r.1 c.requires.alone r.2).asked (sym c.asks_left.ensures ∙ c.if-asks_left.true)

pub returns-then-asks_left-clause-takes : goal.returns-then-asks_left-clause-takes
returns-then-asks_left-clause-takes g c = let r = c.requires.ready in
    can-passed g.met.K.Ord.total (lefts-passed g.met.K.Ord.total c.args.n r.1 c.requires.alone r.2) _ _ _ _
    c.ask_a.ensures.passes

pub returns-else-asks_left-clause-takes : goal.returns-else-asks_left-clause-takes
returns-else-asks_left-clause-takes g c = let r = c.requires.ready in
    can-passed g.met.K.Ord.total (lefts-passed g.met.K.Ord.total c.args.n r.1 c.requires.alone r.2) _ _ _ _
    c.advance_a.ensures.takes
