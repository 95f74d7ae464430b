-- The node binds what is left of the key to what the tree binds the key to, is known to agree with it so far, and has no more
-- children a node; what was counted and what may come stay within the bound.
use Rattle.std.proofs.Common.{◌≡◌, ◌+◌, ◌*◌, ◌≤◌, length}
use Rattle.vc_merge.specs.Count.{digits}
use Rattle.vc_tree_model.specs.Tree.{nodes, width}
use Rattle.vc_tree_model.specs.Map.{lookup}
use Rattle.vc_tree_nodes.specs.Parting.{Agree}
use Rattle.vc_tree_nodes.proofs.Descending.{IsWithin}
use Rattle.vc_tree_nodes.proofs.descent.get.Given as goal

abbrev pub invariant-loop-left : goal.invariant-loop-left
invariant-loop-left g l =
    let tree = g.T.RadixNode.tree in
    let d = digits (width (tree l.tree)) in
    (lookup g.K.Ord.cmp (tree l.tree) l.key ≡ lookup g.K.Ord.cmp (tree l.node) l.rest)
    × Agree g.K.Ord.cmp (tree l.node).prefix l.rest l.known
    × (width (tree l.node) ≤ width (tree l.tree))
    × IsWithin (g.C.Count.counted l.initial.steps + length l.key * (1 + d)) d (g.C.Count.counted l.steps) (length l.rest) l.known

abbrev pub decreases-loop-left : goal.decreases-loop-left
decreases-loop-left g l = nodes (g.T.RadixNode.tree l.node)
