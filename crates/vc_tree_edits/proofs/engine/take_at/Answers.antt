-- The empty tree is left at the place.
use Rattle.std.proofs.Common.{refl}
use Rattle.vc_tree_edits.proofs.Placed.{set-at}
use Rattle.vc_tree_edits.proofs.engine.take_at.Goals as goal

pub returns-clause-left : goal.returns-clause-left
returns-clause-left g c = (c.replace.new.dest, set-at c.args.list.now.items _ c.args.at c.replace.new.dest c.requires refl)
