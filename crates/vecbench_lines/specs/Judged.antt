-- How lines are checked: which fault a line has, if any.
use Rattle.std.specs.Prelude.{◌≡◌, ℕ, ◌⊎◌, ◌&&◌, Bool, true, if◌then◌else◌, nat_lt, List, [], ◌∷◌, codes, Option, None, Some}
use Rattle.std.specs.Option.{option_map_or}
use Rattle.std.specs.Str.{bytes_eq}
use Rattle.vecbench_lines.specs.declared.fault.Fault.{Fault}
use Rattle.vecbench_lines.specs.declared.fault.Fault.TheVariants.{UnknownCommand, NotAscending, NotANumberOrKey, WrongCount, NoMemory}
use Rattle.vecbench_lines.specs.declared.prefix_line.PrefixOperation.{PrefixOperation}
use Rattle.vecbench_lines.specs.declared.prefix_line.PrefixOperation.TheVariants.{Remove, Retain}
use Rattle.vecbench_lines.specs.declared.set_line.SetOperation.{SetOperation}
use Rattle.vecbench_lines.specs.declared.set_line.SetOperation.TheVariants.{Combine, Test}
use Rattle.vec_collections.specs.SetOp.TheVariants.{Union, Intersection, SymmetricDifference, Difference}
use Rattle.vec_collections.specs.SetTest.TheVariants.{Disjoint, Subset, Superset}
use Rattle.vecbench_lines.specs.Keys.{key_in, keys_in}
use Rattle.vecbench_lines.specs.Numbers.{numbers_in}
use Rattle.vecbench_lines.specs.Parts.{are_pairs}
use Rattle.vecbench_lines.specs.Rules.{rules_in}
use Rattle.vecbench_lines.specs.Totals.{list_in}

-- whether each number is less than the next
abbrev pub is_ascending : List ℕ → Bool
is_ascending [] = true
is_ascending (x ∷ []) = true
is_ascending (x ∷ y ∷ ys) = nat_lt x y && is_ascending (y ∷ ys)

-- the fault of a list of numbers: a member that is no number comes before the order
abbrev pub fault_in_list : List ℕ → Option Fault
fault_in_list word = option_map_or (λ numbers. if is_ascending numbers then None else Some NotAscending) (numbers_in word) (Some NotANumberOrKey)

-- the first fault of the two
abbrev pub first_fault : Option Fault → Option Fault → Option Fault
first_fault None second = second
first_fault (Some fault) second = Some fault

-- the test of two sets of this name
abbrev pub test_named : List ℕ → Option SetOperation
test_named name =
    if bytes_eq name (codes "subset") then Some (Test Subset) else
    if bytes_eq name (codes "superset") then Some (Test Superset) else
    if bytes_eq name (codes "disjoint") then Some (Test Disjoint) else None

-- the operation on sets of this name
abbrev pub set_operation_named : List ℕ → Option SetOperation
set_operation_named name =
    if bytes_eq name (codes "union") then Some (Combine Union) else
    if bytes_eq name (codes "intersection") then Some (Combine Intersection) else
    if bytes_eq name (codes "xor") then Some (Combine SymmetricDifference) else
    if bytes_eq name (codes "difference") then Some (Combine Difference) else test_named name

-- the operation on total sets of this name
abbrev pub total_operation_named : List ℕ → Option SetOperation
total_operation_named name =
    if bytes_eq name (codes "and") then Some (Combine Intersection) else
    if bytes_eq name (codes "or") then Some (Combine Union) else
    if bytes_eq name (codes "xor") then Some (Combine SymmetricDifference) else
    if bytes_eq name (codes "minus") then Some (Combine Difference) else test_named name

-- the operation by prefixes of this name
abbrev pub prefix_operation_named : List ℕ → Option PrefixOperation
prefix_operation_named name =
    if bytes_eq name (codes "remove") then Some Remove else
    if bytes_eq name (codes "retain") then Some Retain else None

-- the fault of a word that is to name an operation, by the one that it names
abbrev pub fault_in_operation : {Operation : Type 0} → Option Operation → Option Fault
fault_in_operation named = option_map_or (λ _. None) named (Some UnknownCommand)

-- the fault of the words after `set`: first their count, then the operation, the left list and the
-- right list
abbrev pub fault_in_set : List (List ℕ) → Option Fault
fault_in_set (operation ∷ left ∷ right ∷ []) =
    first_fault (fault_in_operation (set_operation_named operation)) (first_fault (fault_in_list left) (fault_in_list right))
fault_in_set _ = Some WrongCount

-- the fault of the words after `total`: first their count, then the operation, the left set and the
-- right set
abbrev pub fault_in_total : List (List ℕ) → Option Fault
fault_in_total (operation ∷ left ∷ right ∷ []) =
    first_fault (fault_in_operation (total_operation_named operation)) (first_fault (fault_in_list (list_in left)) (fault_in_list (list_in right)))
fault_in_total _ = Some WrongCount

-- the fault of a list of keys: a member that is no key
abbrev pub fault_in_keys : List ℕ → Option Fault
fault_in_keys word = option_map_or (λ _. None) (keys_in word) (Some NotANumberOrKey)

-- the fault of the words after `shape`: first their count, then the list
abbrev pub fault_in_shape : List (List ℕ) → Option Fault
fault_in_shape (keys ∷ []) = fault_in_keys keys
fault_in_shape _ = Some WrongCount

-- the fault of a list of rules: a member that is no rule
abbrev pub fault_in_rules : List ℕ → Option Fault
fault_in_rules word = option_map_or (λ _. None) (rules_in word) (Some NotANumberOrKey)

-- the fault of the words after `permit`: first their count, then the rules and the keys
abbrev pub fault_in_permit : List (List ℕ) → Option Fault
fault_in_permit (rules ∷ keys ∷ []) = first_fault (fault_in_rules rules) (fault_in_keys keys)
fault_in_permit _ = Some WrongCount

-- the fault of the words after `prefix`: first their count, then the operation, the keys and the
-- rules
abbrev pub fault_in_prefix : List (List ℕ) → Option Fault
fault_in_prefix (operation ∷ keys ∷ rules ∷ []) =
    first_fault (fault_in_operation (prefix_operation_named operation)) (first_fault (fault_in_keys keys) (fault_in_rules rules))
fault_in_prefix _ = Some WrongCount

-- the fault of a word that is to be a key
abbrev pub fault_in_key : List ℕ → Option Fault
fault_in_key word = option_map_or (λ _. None) (key_in word) (Some NotANumberOrKey)

-- the fault of a command on a tree: first its name, then the key or the list of keys after it
abbrev pub fault_in_change : List ℕ → List ℕ → Option Fault
fault_in_change name word =
    if bytes_eq name (codes "insert") then fault_in_key word else
    if bytes_eq name (codes "prepend") then fault_in_key word else
    if bytes_eq name (codes "filter") then fault_in_key word else
    if bytes_eq name (codes "union") then fault_in_keys word else
    if bytes_eq name (codes "intersection") then fault_in_keys word else
    if bytes_eq name (codes "difference") then fault_in_keys word else
    if bytes_eq name (codes "remove") then fault_in_keys word else
    if bytes_eq name (codes "retain") then fault_in_keys word else Some UnknownCommand

-- the first fault of commands, each a name and the word after it
abbrev pub fault_in_changes : List (List ℕ) → Option Fault
fault_in_changes [] = None
fault_in_changes (name ∷ []) = Some WrongCount
fault_in_changes (name ∷ word ∷ words) = first_fault (fault_in_change name word) (fault_in_changes words)

-- the fault of the words after `tree`: first their count, then the list of keys and the commands
abbrev pub fault_in_tree : List (List ℕ) → Option Fault
fault_in_tree [] = Some WrongCount
fault_in_tree (keys ∷ words) = if are_pairs words then first_fault (fault_in_keys keys) (fault_in_changes words) else Some WrongCount

-- the fault of a line with these words: first its first word, then those after it
abbrev pub fault_in_words : List (List ℕ) → Option Fault
fault_in_words [] = None
fault_in_words (name ∷ words) =
    if bytes_eq name (codes "set") then fault_in_set words else
    if bytes_eq name (codes "total") then fault_in_total words else
    if bytes_eq name (codes "shape") then fault_in_shape words else
    if bytes_eq name (codes "permit") then fault_in_permit words else
    if bytes_eq name (codes "prefix") then fault_in_prefix words else
    if bytes_eq name (codes "tree") then fault_in_tree words else Some UnknownCommand

-- the fault that was found, unless a request for memory was refused before
abbrev pub IsFault : Option Fault → Fault → Type 0
IsFault judged fault = (judged ≡ Some fault) ⊎ (fault ≡ NoMemory)
