use Rattle.std.proofs.Common.{◌≡◌, ◌++◌, ◌∷◌, take}
use Rattle.std.specs.List.{flat_map}
use Rattle.std.specs.String.{string_bytes}
use Rattle.vec_collections.specs.Tree.{nodes}
use Rattle.vecbench_lines.specs.Shapes.{shape_text}
use Rattle.vecbench_lines.proofs.keys.+put_shape.Given as goal

abbrev pub decreases-put_shape : goal.decreases-put_shape
decreases-put_shape g l = nodes (g.T.RadixNode.tree l.tree.now)

-- the shapes up to here are written, each behind a space
abbrev pub invariant-loop-child : goal.invariant-loop-child
invariant-loop-child g l =
    string_bytes l.text ≡ string_bytes l.initial.text ++ flat_map (λ t. 32 ∷ shape_text (g.T.RadixNode.tree t))
    (take l.child-index l.others)
