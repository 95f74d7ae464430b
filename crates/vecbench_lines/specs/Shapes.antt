-- How the shape of a tree is printed.
use Rattle.std.specs.Prelude.{ℕ, if◌then◌else◌, List, [], ◌∷◌, ◌++◌, codes, Option, None, Some}
use Rattle.std.specs.Char.{encode_utf8}
use Rattle.std.specs.List.{flat_map}
use Rattle.vec_collections.specs.Tree.{Tree, Forest, bare, grow}
use Rattle.vecbench_lines.specs.Parts.{is_some_text}

-- how a key is printed: a dot where it is empty, and otherwise each component as the character of
-- its number
abbrev pub key_text : List ℕ → List ℕ
key_text key = if is_some_text key then flat_map encode_utf8 key else codes "."

-- what marks a node with a value
abbrev pub value_mark : {V : Type 0} → Option V → List ℕ
value_mark None = []
value_mark (Some v) = codes "*"

-- the shapes in parentheses, each after a space, and nothing where there is none
abbrev pub in_parentheses : List ℕ → List ℕ
in_parentheses [] = []
in_parentheses (space ∷ shapes) = codes "(" ++ shapes ++ codes ")"

-- the shapes of a list of trees, each after a space
abbrev pub shapes_text : {V : Type 0} → Forest ℕ V → List ℕ
shapes_text bare = []
shapes_text (grow p v kids rest) = codes " " ++ (key_text p ++ value_mark v ++ in_parentheses (shapes_text kids)) ++ shapes_text rest

-- the shape of a tree: its prefix, its mark and the shapes of its children
abbrev pub shape_text : {V : Type 0} → Tree ℕ V → List ℕ
shape_text t = key_text t.prefix ++ value_mark t.value ++ in_parentheses (shapes_text t.children)
