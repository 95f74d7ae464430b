use Rattle.std.proofs.Common.{sym, ◌∙◌}
use Rattle.vc_maps.proofs.Asked.{can-passed, rights-passed}
use Rattle.vc_maps.proofs.join.JoinOpMergeOperation.from_b.Goals as goal

pub ask_b-requires-clause-takes : goal.ask_b-requires-clause-takes
ask_b-requires-clause-takes g c = let r = c.requires.ready in
    (rights-passed g.met.K.Ord.total c.args.n r.1 c.requires.alone r.2).asked (sym c.asks_right.ensures ∙ c.if-asks_right.true)

pub returns-then-asks_right-clause-takes : goal.returns-then-asks_right-clause-takes
returns-then-asks_right-clause-takes g c = let r = c.requires.ready in
    can-passed g.met.K.Ord.total (rights-passed g.met.K.Ord.total c.args.n r.1 c.requires.alone r.2) _ _ _ _
    c.ask_b.ensures.passes

pub returns-else-asks_right-clause-takes : goal.returns-else-asks_right-clause-takes
returns-else-asks_right-clause-takes g c = let r = c.requires.ready in
    can-passed g.met.K.Ord.total (rights-passed g.met.K.Ord.total c.args.n r.1 c.requires.alone r.2) _ _ _ _
    c.skip_b.ensures.takes
