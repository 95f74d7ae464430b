use Rattle.std.proofs.Common.{refl}
use Rattle.vc_maps.proofs.fresh.FreshStateJoinState.ask_a.Goals as goal

pub returns-clause-gives : goal.returns-clause-gives
returns-clause-gives g c = (refl, refl, rw c.part.ensures at c.in_ok-ask_lefts.ensures)
