use Rattle.vecbench_lines.specs.Parts.{parts_of}
use Rattle.vecbench_lines.specs.declared.parts.Separator.TheVariants.{Comma}
use Rattle.vecbench_lines.specs.PartsLeft.{parts_left}
use Rattle.vecbench_lines.specs.Numbers.{number_in}
use Rattle.vecbench_lines.proofs.Members.{AreRead}
use Rattle.vecbench_lines.proofs.numbers.read_numbers.Given as goal

-- the numbers that were read stand before those of the parts that are left
abbrev pub invariant-loop-part : goal.invariant-loop-part
invariant-loop-part l =
    (goal.iterator-loop-part).can_next l.part-iterator ×
    (goal.iterator-loop-part).is_finite l.part-iterator ×
    AreRead number_in l.numbers.items (parts_left l.part-iterator) (parts_of Comma l.fn.word)
