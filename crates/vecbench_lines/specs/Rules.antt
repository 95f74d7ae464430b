-- What a word means as a list of rules on keys.
use Rattle.std.specs.Prelude.{◌≡◌, ℕ, Bool, not, List, Option, Some}
use Rattle.std.specs.Option.{option_map}
use Rattle.std.specs.Ordering.{nat_cmp}
use Rattle.vec_collections.specs.Tree.{Tree}
use Rattle.vec_collections.specs.TreePairs.{IsCollected}
use Rattle.vecbench_lines.specs.Keys.{key_in}
use Rattle.vecbench_lines.specs.Parts.{members_in}
use Rattle.vecbench_lines.specs.Totals.{is_marked, list_in}

-- the rule of a word: a key, and whether it is allowed, which it is not after `!`
abbrev pub rule_in : List ℕ → Option (List ℕ × Bool)
rule_in word = option_map (λ key. (key, not (is_marked word))) (key_in (list_in word))

-- the rules of a list: none in `-`, and otherwise those between the commas
abbrev pub rules_in : List ℕ → Option (List (List ℕ × Bool))
rules_in word = members_in rule_in word

-- the word is a list of rules, and the filter has the last one of these for each key
abbrev pub SaysRules : List ℕ → Tree ℕ Bool → Type 0
SaysRules word filter = (rules : List (List ℕ × Bool)) × (rules_in word ≡ Some rules) × IsCollected nat_cmp rules filter
