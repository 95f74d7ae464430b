-- What a word means as a total set of numbers, how one is printed, and when its test holds.
use Rattle.std.specs.Prelude.{ℕ, Bool, false, if◌then◌else◌, nat_eq, List, [], ◌∷◌, ◌++◌, codes, drop, Option}
use Rattle.std.specs.Option.{option_map}
use Rattle.std.specs.Ordering.{nat_cmp}
use Rattle.vec_collections.specs.SetTest.{SetTest}
use Rattle.vec_collections.specs.SetTest.TheVariants.{Disjoint, Subset, Superset}
use Rattle.vec_collections.specs.TotalSet.{TotalSet, total}
use Rattle.vec_collections.specs.TotalTests.{IsTotalSubset, IsTotalDisjoint}
use Rattle.vecbench_lines.specs.Numbers.{numbers_in, list_text}

-- whether a word begins with `!`
abbrev pub is_marked : List ℕ → Bool
is_marked [] = false
is_marked (c ∷ word) = nat_eq c 33

-- the list of a word, without the `!` that it may begin with
abbrev pub list_in : List ℕ → List ℕ
list_in word = if is_marked word then drop 1 word else word

-- the total set that a word means: the numbers of a list or, after `!`, all except these
abbrev pub total_in : List ℕ → Option (TotalSet ℕ)
total_in word = option_map (λ numbers. total numbers (is_marked word)) (numbers_in (list_in word))

-- how a total set is printed: its list, after `!` where it is negated
abbrev pub total_text : TotalSet ℕ → List ℕ
total_text set = (if set.negated then codes "!" else []) ++ list_text set.elements

-- what a test says of two total sets
abbrev pub IsTotalTestedBy : SetTest → TotalSet ℕ → TotalSet ℕ → Type 0
IsTotalTestedBy Disjoint left right = IsTotalDisjoint nat_cmp left right
IsTotalTestedBy Subset left right = IsTotalSubset nat_cmp left right
IsTotalTestedBy Superset left right = IsTotalSubset nat_cmp right left
