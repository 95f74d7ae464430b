use Rattle.std.proofs.Common.{refl}
use Rattle.vec_collections_tests.proofs.overlays.completed.Goals as goal

-- the tree in the variable is itself
pub same-all : goal.same-all
same-all c = refl
