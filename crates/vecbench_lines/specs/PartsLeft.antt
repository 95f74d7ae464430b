-- What the iterators over parts and words still give.
use Rattle.std.specs.Prelude.{ℕ, List, filter}
use Rattle.vecbench_lines.specs.declared.parts.Parts.{Parts}
use Rattle.vecbench_lines.specs.declared.parts.Words.{Words}
use Rattle.vecbench_lines.specs.Parts.{parts_of_rest, is_some_text}

-- the parts that are left
abbrev pub parts_left : Parts → List (List ℕ)
parts_left parts = parts_of_rest parts.separator parts.rest

-- the words that are left
abbrev pub words_left : Words → List (List ℕ)
words_left words = filter is_some_text (parts_left words.parts)
