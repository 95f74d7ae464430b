-- Paths of files and of settings.
use Rattle.std.specs.Prelude.{Bool, List, ℕ}
use Rattle.std.specs.Ordering.{nat_cmp}
use Rattle.vec_collections.specs.Key.{same_key}

-- a path, as its bytes
abbrev pub Path : Type 0
Path = List ℕ

-- both are the same path
abbrev pub same_path : Path → Path → Bool
same_path path other = same_key nat_cmp path other
