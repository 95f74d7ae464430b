-- The components before `n` agree.
use Rattle.std.proofs.Common.{◌-◌}
use Rattle.vc_tree_nodes.specs.Parting.{Agree}
use Rattle.vc_tree_nodes.proofs.ascending.common_front.Given as goal

abbrev pub invariant-loop-n : goal.invariant-loop-n
invariant-loop-n g l = Agree g.K.Ord.cmp l.before l.key l.n

abbrev pub decreases-loop-n : goal.decreases-loop-n
decreases-loop-n g l = l.both - l.n
