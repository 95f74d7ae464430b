-- Files by their paths.
use Rattle.std.specs.Prelude.{Bool, ℕ, Option}
use Rattle.std.specs.Ordering.{nat_cmp}
use Rattle.vec_collections.specs.Allowed.{is_allowed}
use Rattle.vec_collections.specs.Map.{lookup}
use Rattle.vec_collections.specs.Tree.{Tree}
use Rattle.users.specs.Path.{Path}
use Rattle.users.specs.declared.paths.Files.{Files}

-- the size of the file at the path
abbrev pub size_of : Files → Path → Option ℕ
size_of files path = lookup nat_cmp files.sizes path

-- the longest rule on the path allows it
abbrev pub allows : Tree ℕ Bool → Path → Bool
allows rules path = is_allowed nat_cmp rules path
