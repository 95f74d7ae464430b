-- How a text is taken apart into parts, and a line into words.
use Rattle.std.specs.Prelude.{ℕ, ◌==◌, ◌||◌, Bool, true, false, not, if◌then◌else◌, List, [], ◌∷◌, length, filter, codes, Option, None, Some}
use Rattle.std.specs.Borrow.{Bor}
use Rattle.std.specs.List.{slice_split}
use Rattle.std.specs.Option.{option_map, option_and_then}
use Rattle.std.specs.Str.{bytes_eq}
use Rattle.vecbench_lines.specs.declared.parts.Separator.{Separator}
use Rattle.vecbench_lines.specs.declared.parts.Separator.TheVariants.{Newline, Gap, Comma}

-- whether texts are separated at the byte
abbrev pub parts_at : Separator → ℕ → Bool
parts_at Newline byte = byte == 10
parts_at Gap byte = byte == 32 || byte == 9
parts_at Comma byte = byte == 44

-- what is between the separators of a text, one part more than there are separators
abbrev pub parts_of : Separator → List ℕ → List (List ℕ)
parts_of separator text = slice_split (parts_at separator) text

-- the parts of a text, if there is one
abbrev pub parts_of_rest : Separator → Option (Bor (List ℕ)) → List (List ℕ)
parts_of_rest separator None = []
parts_of_rest separator (Some text) = parts_of separator text.now

-- whether there is a byte
abbrev pub is_some_text : List ℕ → Bool
is_some_text text = not (length text == 0)

-- the words of a line: what is between spaces and tabs, except for the empty texts
abbrev pub words_of : List ℕ → List (List ℕ)
words_of line = filter is_some_text (parts_of Gap line)

-- whether words are in pairs
abbrev pub are_pairs : List (List ℕ) → Bool
are_pairs [] = true
are_pairs (word ∷ []) = false
are_pairs (word ∷ other ∷ words) = are_pairs words

-- what some words mean, where each of them has a meaning by `says`
abbrev pub all_in : {X : Type 0} → (List ℕ → Option X) → List (List ℕ) → Option (List X)
all_in says [] = Some []
all_in says (word ∷ words) = option_and_then (λ x. option_map (λ xs. x ∷ xs) (all_in says words)) (says word)

-- the members of a list: none in `-`, and otherwise what the words between the commas mean by
-- `says`
abbrev pub members_in : {X : Type 0} → (List ℕ → Option X) → List ℕ → Option (List X)
members_in says word = if bytes_eq word (codes "-") then Some [] else all_in says (parts_of Comma word)
