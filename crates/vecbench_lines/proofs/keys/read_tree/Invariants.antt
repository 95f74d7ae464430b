use Rattle.std.proofs.Common.{ℕ, List}
use Rattle.vecbench_lines.specs.Keys.{key_in, HasKeys}
use Rattle.vecbench_lines.specs.Parts.{parts_of}
use Rattle.vecbench_lines.specs.PartsLeft.{parts_left}
use Rattle.vecbench_lines.specs.declared.parts.Separator.TheVariants.{Comma}
use Rattle.vecbench_lines.proofs.Members.{AreRead}
use Rattle.vecbench_lines.proofs.keys.read_tree.Given as goal

-- the keys that were read, which the tree has, stand before those of the parts that are left
abbrev pub invariant-loop-part : goal.invariant-loop-part
invariant-loop-part l =
    (goal.iterator-loop-part).can_next l.part-iterator ×
    (goal.iterator-loop-part).is_finite l.part-iterator ×
    (done : List (List ℕ)) × AreRead key_in done (parts_left l.part-iterator) (parts_of Comma l.fn.word) × HasKeys done l.tree
