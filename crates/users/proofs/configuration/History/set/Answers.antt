use Rattle.std.proofs.Common.{refl}
use Rattle.users.proofs.configuration.History.set.Goals as goal

pub same-next : goal.same-next
same-next c = refl
