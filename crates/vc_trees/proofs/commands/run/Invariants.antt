-- The commands that came lead from the map before to the one of the tree, accepted as the flags so far say.
use Rattle.std.proofs.Common.{map, take, length}
use Rattle.vc_trees.proofs.Chaining.{Leads}
use Rattle.vc_trees.specs.Commanded.{command_of}
use Rattle.vc_trees.proofs.commands.run.Given as goal
use Rattle.vc_tree_model.specs.Map.{lookup}
use Rattle.vc_tree_model.specs.Machine.{KeptStep}

abbrev pub invariant-loop-at : goal.invariant-loop-at
invariant-loop-at g l =
    Leads g.T.Build.keeps (KeptStep g.K.Ord.cmp g.T.Build.keeps g.V.Clone.is_clone)
    (lookup g.K.Ord.cmp (g.T.RadixNode.tree l.initial.tree))
    (map (λ p. command_of g.T.RadixNode.tree p.1) l.yielded) (take (length l.yielded) l.accepted)
    (lookup g.K.Ord.cmp (g.T.RadixNode.tree l.tree))
