-- The components before `n` agree, and those behind the known ones were compared once.
use Rattle.std.proofs.Common.{length, ◌+◌, ◌-◌, ◌≤◌}
use Rattle.vc_tree_nodes.specs.Parting.{Agree}
use Rattle.vc_tree_nodes.proofs.descent.rest_behind.Given as goal

abbrev pub invariant-loop-n : goal.invariant-loop-n
invariant-loop-n g l =
    Agree g.K.Ord.cmp l.prefix l.key l.n
    × (l.known ≤ l.n)
    × (g.C.Count.counted l.steps + l.known ≤ g.C.Count.counted l.initial.steps + l.n)

abbrev pub decreases-loop-n : goal.decreases-loop-n
decreases-loop-n g l = length l.prefix - l.n
