-- What a word means as a key or as a list of keys, and which keys a tree has.
use Rattle.std.specs.Prelude.{◌≡◌, ℕ, ◌&&◌, if◌then◌else◌, List, [], codes, Option, None, Some}
use Rattle.std.specs.Char.{is_ascii_lowercase}
use Rattle.std.specs.List.{list_all, list_any}
use Rattle.std.specs.Option.{is_some}
use Rattle.std.specs.Ordering.{nat_cmp}
use Rattle.std.specs.Str.{bytes_eq}
use Rattle.vec_collections.specs.Canonical.{IsCanonical}
use Rattle.vec_collections.specs.Key.{same_key}
use Rattle.vec_collections.specs.Map.{lookup}
use Rattle.vec_collections.specs.Tree.{Tree}
use Rattle.vecbench_lines.specs.Parts.{is_some_text, members_in}

-- the key of a word: a dot is the empty key, and otherwise there are only letters from a to z
abbrev pub key_in : List ℕ → Option (List ℕ)
key_in word =
    if bytes_eq word (codes ".") then Some [] else if is_some_text word && list_all is_ascii_lowercase word then Some word else None

-- the keys of a list: none in `-`, and otherwise those between the commas
abbrev pub keys_in : List ℕ → Option (List (List ℕ))
keys_in word = members_in key_in word

-- the tree is canonical, and binds exactly the keys of the list
pub record HasKeys {V : Type 0} (keys : List (List ℕ)) (tree : Tree ℕ V) : Type 0 where
  pub canonical : IsCanonical nat_cmp tree
  pub binds : (key : List ℕ) → is_some (lookup nat_cmp tree key) ≡ list_any (λ k. same_key nat_cmp k key) keys

-- the word is a list of keys, and the tree has its keys
abbrev pub SaysKeys : {V : Type 0} → List ℕ → Tree ℕ V → Type 0
SaysKeys word tree = (keys : List (List ℕ)) × (keys_in word ≡ Some keys) × HasKeys keys tree
