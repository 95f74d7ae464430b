-- What was made is there, or what was left.
use Rattle.std.proofs.Common.{refl}
use Rattle.vc_tree_edits.proofs.Placed.{set-at, some-at}
use Rattle.vc_tree_edits.proofs.engine.put_back.Goals as goal

pub returns-in-Some : goal.returns-in-Some
returns-in-Some g c = (c.in-Some.tree, set-at c.args.list.now.items _ c.args.at c.in-Some.tree c.requires refl, c.in-Some.is)

pub returns-in-None : goal.returns-in-None
returns-in-None g c =
    let s = some-at c.args.list.now.items c.args.at c.requires in
    (s.0, s.1, c.in-None.is)
