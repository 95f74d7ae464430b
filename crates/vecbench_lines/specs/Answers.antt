-- How lines are answered.
use Rattle.std.specs.Prelude.{◌≡◌, ◌↔◌, ◌&&◌, ℕ, Bool, true, not, IsTrue, List, [], ◌∷◌, ◌++◌, codes, Option, Some}
use Rattle.std.specs.Option.{is_some}
use Rattle.std.specs.Ordering.{nat_cmp}
use Rattle.std.specs.Str.{bytes_eq}
use Rattle.vec_collections.specs.Algebra.{made_by, IsTestedBy}
use Rattle.vec_collections.specs.Allowed.{is_allowed}
use Rattle.vec_collections.specs.Ascending.{member}
use Rattle.vec_collections.specs.Map.{lookup}
use Rattle.vec_collections.specs.TotalOf.{IsPointwise}
use Rattle.vec_collections.specs.TotalSet.{TotalSet}
use Rattle.vecbench_lines.specs.declared.permit_line.PermitLine.{PermitLine}
use Rattle.vecbench_lines.specs.declared.prefix_line.PrefixLine.{PrefixLine}
use Rattle.vecbench_lines.specs.declared.prefix_line.PrefixOperation.{PrefixOperation}
use Rattle.vecbench_lines.specs.declared.prefix_line.PrefixOperation.TheVariants.{Remove, Retain}
use Rattle.vecbench_lines.specs.declared.set_line.SetLine.{SetLine}
use Rattle.vecbench_lines.specs.declared.set_line.SetOperation.{SetOperation}
use Rattle.vecbench_lines.specs.declared.set_line.SetOperation.TheVariants.{Combine, Test}
use Rattle.vecbench_lines.specs.declared.shape_line.ShapeLine.{ShapeLine}
use Rattle.vecbench_lines.specs.declared.total_line.TotalLine.{TotalLine}
use Rattle.vecbench_lines.specs.declared.tree_line.TreeLine.{TreeLine}
use Rattle.vecbench_lines.specs.declared.command.Command.{Command}
use Rattle.vecbench_lines.specs.declared.command.Command.TheVariants.{Set, Total, Shape, Permit, Prefix, Tree}
use Rattle.vecbench_lines.specs.Changes.{SaysChanges, Leads}
use Rattle.vecbench_lines.specs.KeyLists.{ListsKeys}
use Rattle.vecbench_lines.specs.Keys.{SaysKeys}
use Rattle.vecbench_lines.specs.Numbers.{numbers_in, list_text, truth_text}
use Rattle.vecbench_lines.specs.Rules.{SaysRules}
use Rattle.vecbench_lines.specs.Shapes.{shape_text}
use Rattle.vecbench_lines.specs.Totals.{total_in, total_text, IsTotalTestedBy}
use Rattle.vecbench_lines.specs.Judged.{is_ascending, set_operation_named, total_operation_named, prefix_operation_named}

-- the words after `set` mean this line
abbrev pub SaysSetLine : List (List ℕ) → SetLine → Type 0
SaysSetLine (operation ∷ left ∷ right ∷ []) line =
    (set_operation_named operation ≡ Some line.operation) × (numbers_in left ≡ Some line.left) × (numbers_in right ≡ Some line.right)
SaysSetLine _ line = ⊥

-- the words after `total` mean this line
abbrev pub SaysTotalLine : List (List ℕ) → TotalLine → Type 0
SaysTotalLine (operation ∷ left ∷ right ∷ []) line =
    (total_operation_named operation ≡ Some line.operation) × (total_in left ≡ Some line.left) × (total_in right ≡ Some line.right)
SaysTotalLine _ line = ⊥

-- the word after `shape` means this line
abbrev pub SaysShapeLine : List (List ℕ) → ShapeLine → Type 0
SaysShapeLine (keys ∷ []) line = SaysKeys keys line.tree
SaysShapeLine _ line = ⊥

-- the words after `permit` mean this line
abbrev pub SaysPermitLine : List (List ℕ) → PermitLine → Type 0
SaysPermitLine (rules ∷ keys ∷ []) line = SaysRules rules line.filter × SaysKeys keys line.tree
SaysPermitLine _ line = ⊥

-- the words after `prefix` mean this line
abbrev pub SaysPrefixLine : List (List ℕ) → PrefixLine → Type 0
SaysPrefixLine (operation ∷ keys ∷ rules ∷ []) line =
    (prefix_operation_named operation ≡ Some line.operation) × SaysKeys keys line.tree × SaysRules rules line.filter
SaysPrefixLine _ line = ⊥

-- the words after `tree` mean this line: a list of keys, and commands
abbrev pub SaysTreeLine : List (List ℕ) → TreeLine → Type 0
SaysTreeLine [] line = ⊥
SaysTreeLine (keys ∷ words) line = SaysKeys keys line.tree × SaysChanges words line.changes.items

-- the words mean this command
abbrev pub SaysCommand : List (List ℕ) → Command → Type 0
SaysCommand [] command = ⊥
SaysCommand (name ∷ words) (Set line) = (bytes_eq name (codes "set") ≡ true) × SaysSetLine words line
SaysCommand (name ∷ words) (Total line) = (bytes_eq name (codes "total") ≡ true) × SaysTotalLine words line
SaysCommand (name ∷ words) (Shape line) = (bytes_eq name (codes "shape") ≡ true) × SaysShapeLine words line
SaysCommand (name ∷ words) (Permit line) = (bytes_eq name (codes "permit") ≡ true) × SaysPermitLine words line
SaysCommand (name ∷ words) (Prefix line) = (bytes_eq name (codes "prefix") ≡ true) × SaysPrefixLine words line
SaysCommand (name ∷ words) (Tree line) = (bytes_eq name (codes "tree") ≡ true) × SaysTreeLine words line

-- an ascending list of the numbers that f picks, by whether they are in the left list and in the
-- right one
pub record IsPicked (f : Bool → Bool → Bool) (left right picked : List ℕ) : Type 0 where
  pub ascends : is_ascending picked ≡ true
  pub members : (n : ℕ) → member nat_cmp picked n ≡ f (member nat_cmp left n) (member nat_cmp right n)

-- the text answers the operation on two sets: its result, or whether its test holds
abbrev pub AnswersSets : SetOperation → List ℕ → List ℕ → List ℕ → Type 0
AnswersSets (Combine op) left right text = (picked : List ℕ) × IsPicked (made_by op) left right picked × (text ≡ list_text picked)
AnswersSets (Test test) left right text = (holds : Bool) × (IsTrue holds ↔ IsTestedBy test nat_cmp left right) × (text ≡ truth_text holds)

-- the text answers the operation on two total sets: its result at each value, or whether its test
-- holds
abbrev pub AnswersTotals : SetOperation → TotalSet ℕ → TotalSet ℕ → List ℕ → Type 0
AnswersTotals (Combine op) left right text = (made : TotalSet ℕ) × IsPointwise nat_cmp (made_by op) left right made × (text ≡ total_text made)
AnswersTotals (Test test) left right text = (holds : Bool) × (IsTrue holds ↔ IsTotalTestedBy test left right) × (text ≡ truth_text holds)

-- the text lists the keys of the line's tree that its rules allow
abbrev pub AnswersPermit : PermitLine → List ℕ → Type 0
AnswersPermit line text = ListsKeys (λ key. is_some (lookup nat_cmp line.tree key) && is_allowed nat_cmp line.filter key) text

-- whether a key stays, by whether it is admitted
abbrev pub stays_by : PrefixOperation → Bool → Bool
stays_by Remove admitted = not admitted
stays_by Retain admitted = admitted

-- the second map has the keys of the first that stay
abbrev pub KeysStay : {V : Type 0} → PrefixOperation → (List ℕ → Bool) → (List ℕ → Option V) → (List ℕ → Option V) → Type 0
KeysStay operation admitted old left = (key : List ℕ) → is_some (left key) ≡ (is_some (old key) && stays_by operation (admitted key))

-- the text lists the keys of the line's tree that stay, where the longest rule that is a prefix
-- decides
abbrev pub AnswersPrefix : PrefixLine → List ℕ → Type 0
AnswersPrefix line text =
    ListsKeys (λ key. is_some (lookup nat_cmp line.tree key) && stays_by line.operation (is_allowed nat_cmp line.filter key)) text

-- the text lists the keys of the map to which the line's commands lead, all of which succeed
abbrev pub AnswersTree : TreeLine → List ℕ → Type 0
AnswersTree line text =
    (map : List ℕ → Option (Unit {0})) × Leads line.changes.items (lookup nat_cmp line.tree) map × ListsKeys (λ key. is_some (map key)) text

-- the text answers the command
abbrev pub Answers : Command → List ℕ → Type 0
Answers (Set line) text = AnswersSets line.operation line.left line.right text
Answers (Total line) text = AnswersTotals line.operation line.left line.right text
Answers (Shape line) text = text ≡ shape_text line.tree
Answers (Permit line) text = AnswersPermit line text
Answers (Prefix line) text = AnswersPrefix line text
Answers (Tree line) text = AnswersTree line text

-- the text, with its LF, answers the words of a line; without words nothing does
abbrev pub AnswersWords : List (List ℕ) → List ℕ → Type 0
AnswersWords [] text = text ≡ []
AnswersWords (name ∷ words) text =
    (command : Command) × (answer : List ℕ) × SaysCommand (name ∷ words) command × Answers command answer × (text ≡ answer ++ codes "\n")
