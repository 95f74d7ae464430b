-- Ascending lists of keys, and how they are printed.
use Rattle.std.specs.Prelude.{◌≡◌, ℕ, Bool, List, [], ◌∷◌, ◌++◌, codes}
use Rattle.std.specs.Cmp.Lexicographic.{slice_cmp}
use Rattle.std.specs.List.{flat_map, list_any}
use Rattle.std.specs.List.Sorted.{IsStrictlySortedBy}
use Rattle.std.specs.Ordering.{nat_cmp}
use Rattle.vec_collections.specs.Key.{same_key}
use Rattle.vecbench_lines.specs.Shapes.{key_text}

-- how the keys after the first one are printed: each after a comma
abbrev pub others_text : List (List ℕ) → List ℕ
others_text keys = flat_map (λ key. codes "," ++ key_text key) keys

-- how a list of keys is printed: `-` where there is none, and otherwise with commas between them
abbrev pub keys_text : List (List ℕ) → List ℕ
keys_text [] = codes "-"
keys_text (key ∷ keys) = key_text key ++ others_text keys

-- the keys ascend strictly, and they are those that pass the test
pub record AreKeys (test : List ℕ → Bool) (keys : List (List ℕ)) : Type 0 where
  pub ascend : IsStrictlySortedBy (slice_cmp nat_cmp) keys
  pub members : (key : List ℕ) → list_any (λ k. same_key nat_cmp k key) keys ≡ test key

-- the text lists the keys that pass the test, ascending
abbrev pub ListsKeys : (List ℕ → Bool) → List ℕ → Type 0
ListsKeys test text = (keys : List (List ℕ)) × AreKeys test keys × (text ≡ keys_text keys)
