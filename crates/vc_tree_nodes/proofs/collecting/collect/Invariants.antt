-- What came is kept, or in the tree.
use Rattle.std.proofs.Common.{map}
use Rattle.vc_tree_model.specs.Map.{IsEqualMap}
use Rattle.vc_tree_model.specs.Pairs.{last_bound}
use Rattle.vc_tree_nodes.specs.Ascending.{MayGrow, gathered}
use Rattle.vc_tree_nodes.proofs.collecting.collect.Given as goal

abbrev pub invariant-loop-key : goal.invariant-loop-key
invariant-loop-key g l =
    MayGrow g.K.Ord.cmp (λ s. g.S.Spelled.components s.key) (λ s. s.common) l.gathering.ascends l.gathering.run.items
    l.gathering.values.items
    × IsEqualMap g.T.Build.keeps (last_bound g.K.Ord.cmp (map (λ b. (g.S.Spelled.components b.0, b.1)) l.yielded))
    (gathered g.K.Ord.cmp (λ s. g.S.Spelled.components s.key) l.gathering.ascends l.gathering.run.items
    l.gathering.values.items (g.T.RadixNode.tree l.tree))
