-- What words mean as commands on a tree of keys, and where commands lead.
use Rattle.std.specs.Prelude.{◌≡◌, ℕ, Bool, true, List, [], ◌∷◌, map, codes, Option, Some}
use Rattle.std.specs.List.{list_all}
use Rattle.std.specs.Ordering.{nat_cmp}
use Rattle.std.specs.Str.{bytes_eq}
use Rattle.vec_collections.specs.Commanded.{command_of}
use Rattle.vec_collections.specs.Machine.{Run}
use Rattle.vec_collections.specs.Tree.{Tree}
use Rattle.vec_collections.specs.TreeCommand.{TreeCommand}
use Rattle.vec_collections.specs.TreeCommand.TheVariants.{Insert, Prepend, Filter, Union, Intersection, Difference, RemovePrefix, RetainPrefix}
use Rattle.vecbench_lines.specs.Keys.{key_in, SaysKeys}

-- a command on a tree of keys
abbrev pub Change : Type 0
Change = TreeCommand ℕ (Unit {0}) (Tree ℕ (Unit {0}))

-- the name and the word after it mean this command: on a key, or on a list of keys
abbrev pub SaysChange : List ℕ → List ℕ → Change → Type 0
SaysChange name word (Insert key value) = (bytes_eq name (codes "insert") ≡ true) × (key_in word ≡ Some key.items)
SaysChange name word (Prepend key) = (bytes_eq name (codes "prepend") ≡ true) × (key_in word ≡ Some key.items)
SaysChange name word (Filter key) = (bytes_eq name (codes "filter") ≡ true) × (key_in word ≡ Some key.items)
SaysChange name word (Union tree) = (bytes_eq name (codes "union") ≡ true) × SaysKeys word tree
SaysChange name word (Intersection tree) = (bytes_eq name (codes "intersection") ≡ true) × SaysKeys word tree
SaysChange name word (Difference tree) = (bytes_eq name (codes "difference") ≡ true) × SaysKeys word tree
SaysChange name word (RemovePrefix tree) = (bytes_eq name (codes "remove") ≡ true) × SaysKeys word tree
SaysChange name word (RetainPrefix tree) = (bytes_eq name (codes "retain") ≡ true) × SaysKeys word tree

-- the words mean these commands, each a name and the word after it
abbrev pub SaysChanges : List (List ℕ) → List Change → Type 0
SaysChanges [] changes = changes ≡ []
SaysChanges (name ∷ []) changes = ⊥
SaysChanges (name ∷ word ∷ words) [] = ⊥
SaysChanges (name ∷ word ∷ words) (change ∷ changes) = SaysChange name word change × SaysChanges words changes

-- the commands, all of which succeed, lead from one map to the other: a run of the machine
abbrev pub Leads : List Change → (List ℕ → Option (Unit {0})) → (List ℕ → Option (Unit {0})) → Type 0
Leads changes old new =
    (accepted : List Bool) × (list_all (λ ok. ok) accepted ≡ true)
    × Run nat_cmp (λ v w. v ≡ w) old (map (command_of (λ tree. tree)) changes) accepted new
