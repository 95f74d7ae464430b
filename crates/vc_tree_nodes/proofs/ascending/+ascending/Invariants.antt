-- The trees so far stand for the keys before the rest, and each call is for fewer keys.
use Rattle.std.proofs.Common.{◌+◌, ◌*◌, length}
use Rattle.std.specs.Vec.Iter.{into_iter_items}
use Rattle.vc_tree_nodes.proofs.Groups.{GroupsSoFar}
use Rattle.vc_tree_nodes.proofs.ascending.+ascending.Given as goal

abbrev pub decreases-build_run : goal.decreases-build_run
decreases-build_run g l = 4 * length l.run.now + 2

abbrev pub decreases-build_ended : goal.decreases-build_ended
decreases-build_ended g l = 4 * length l.run.now + 1

abbrev pub decreases-build_open : goal.decreases-build_open
decreases-build_open g l = 4 * length l.run.now + 1

abbrev pub decreases-build_groups : goal.decreases-build_groups
decreases-build_groups g l = 4 * length l.run.now + 3

abbrev pub invariant-build_groups-loop-rest : goal.invariant-build_groups-loop-rest
invariant-build_groups-loop-rest g l =
    GroupsSoFar g.K.Ord.cmp g.T.RadixNode.tree (λ s. g.S.Spelled.components s.key) (λ s. s.common) l.depth l.run
    (into_iter_items l.fn.values) l.fn.children.items l.rest (into_iter_items l.values) l.children.items

abbrev pub decreases-build_groups-loop-rest : goal.decreases-build_groups-loop-rest
decreases-build_groups-loop-rest g l = length l.rest
