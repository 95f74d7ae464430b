use Rattle.std.proofs.Common.{refl}
use Rattle.vc_tree_edits.proofs.changes.Sift.verdict.Goals as goal

pub returns-in-Some : goal.returns-in-Some
returns-in-Some g c = rw c.in-Some.is (record { shown = c.in-Some.w; shows = refl; answers = c.judge.ensures })
