use Rattle.std.proofs.Common.{ℕ, Bool, List}
use Rattle.std.specs.Ordering.{nat_cmp}
use Rattle.vec_collections.specs.TreePairs.{IsCollected}
use Rattle.vecbench_lines.specs.Parts.{parts_of}
use Rattle.vecbench_lines.specs.PartsLeft.{parts_left}
use Rattle.vecbench_lines.specs.Rules.{rule_in}
use Rattle.vecbench_lines.specs.declared.parts.Separator.TheVariants.{Comma}
use Rattle.vecbench_lines.proofs.Members.{AreRead}
use Rattle.vecbench_lines.proofs.rules.read_filter.Given as goal

-- the rules that were read, which the filter has, stand before those of the parts that are left
abbrev pub invariant-loop-part : goal.invariant-loop-part
invariant-loop-part l =
    (goal.iterator-loop-part).can_next l.part-iterator ×
    (goal.iterator-loop-part).is_finite l.part-iterator ×
    (done : List (List ℕ × Bool)) × AreRead rule_in done (parts_left l.part-iterator) (parts_of Comma l.fn.word)
    × IsCollected nat_cmp done l.filter
