-- Numbers under names, in words of the letters of names.
use Rattle.std.specs.Prelude.{ℕ, List, Option, find, option_map, string_bytes}
use Rattle.std.specs.Cmp.Lexicographic.{slice_cmp}
use Rattle.std.specs.Ordering.{nat_cmp}
use Rattle.std.specs.declared.cmp.Ordering.{Ordering}
use Rattle.vec_collections_tests.specs.Names.{has_letters}
use Rattle.vec_collections_tests.specs.declared.directories.Entry.{Entry}

-- entries in the order of their names
abbrev pub by_name : Entry → Entry → Ordering
by_name x y = slice_cmp nat_cmp (string_bytes x.name) (string_bytes y.name)

-- the number under the name with these letters
abbrev pub number_under : List ℕ → List Entry → Option ℕ
number_under letters entries = option_map (λ e. e.number) (find (λ e. has_letters letters e.name) entries)
