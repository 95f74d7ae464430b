-- What is left is woven behind what is done.
use Rattle.std.proofs.Common.{◌≡◌, ◌++◌, length}
use Rattle.vc_tree_edits.specs.Woven.{woven}
use Rattle.vc_tree_edits.proofs.comers.weave.Given as goal

abbrev pub invariant-comers : goal.invariant-comers
invariant-comers g l = l.list.items ++ woven l.done l.rest.items l.comers.items ≡ woven 0 l.fn.list.items l.fn.comers.items

abbrev pub decreases-comers : goal.decreases-comers
decreases-comers g l = length l.comers.items
