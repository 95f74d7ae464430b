-- All of the script is noted.
use Rattle.std.proofs.Common.{map, ap}
use Rattle.vec_collections_tests.specs.Changes.{event_of}
use Rattle.vec_collections_tests.proofs.Noted.{script-noted}
use Rattle.vec_collections_tests.proofs.changes.changes.Goals as goal

pub returns-clause-changes : goal.returns-clause-changes
returns-clause-changes g c = script-noted _ _ _ c.in_ok-merge.ensures.merged (ap (λ cs. map event_of cs) c.new.ensures.items)
