-- What a word means as a number or as a list of numbers, and how a list is printed.
use Rattle.std.specs.Prelude.{ℕ, ◌^◌, ◌&&◌, Bool, true, false, if◌then◌else◌, nat_lt, List, [], ◌∷◌, map, codes, decimal, Option, None, Some}
use Rattle.std.specs.List.{join_with_byte}
use Rattle.std.specs.Str.{all_ascii_digits}
use Rattle.std.specs.Str.Parse.{digits_value}
use Rattle.vecbench_lines.specs.Parts.{is_some_text, members_in}

-- the number of a word: one digit or more and nothing else, and it fits in 64 bits
abbrev pub number_in : List ℕ → Option ℕ
number_in word =
    if is_some_text word && all_ascii_digits word && nat_lt (digits_value 10 word) (2 ^ 64) then Some (digits_value 10 word) else None

-- the numbers of a list: none in `-`, and otherwise those between the commas
abbrev pub numbers_in : List ℕ → Option (List ℕ)
numbers_in word = members_in number_in word

-- how a list of numbers is printed
abbrev pub list_text : List ℕ → List ℕ
list_text [] = codes "-"
list_text (n ∷ ns) = join_with_byte 44 (map decimal (n ∷ ns))

-- how it is printed whether a test holds
abbrev pub truth_text : Bool → List ℕ
truth_text true = codes "true"
truth_text false = codes "false"
