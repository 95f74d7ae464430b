-- Versions of a configuration.
use Rattle.std.specs.Prelude.{◌≡◌, Bool, true, false, not, ℕ, ◌-◌, ◌==◌, length, Option, Some, None, slice_get}
use Rattle.std.specs.Ordering.{nat_cmp}
use Rattle.std.specs.Option.{is_some}
use Rattle.vec_collections.specs.Key.{behind}
use Rattle.vec_collections.specs.Map.{lookup}
use Rattle.vec_collections.specs.Tree.{Tree}
use Rattle.users.specs.Path.{Path}
use Rattle.users.specs.declared.configuration.Changes.{Changes}
use Rattle.users.specs.declared.configuration.History.{History}

-- what the settings of one version have at the path
abbrev pub set_in : Tree ℕ ℕ → Path → Option ℕ
set_in settings path = lookup nat_cmp settings path

-- the same, if there is such a version
abbrev pub found_in : Option (Tree ℕ ℕ) → Path → Option ℕ
found_in None path = None
found_in (Some settings) path = set_in settings path

-- the number of versions
abbrev pub count : History → ℕ
count history = length history.versions.items

-- the settings of a version, if there is such a version
abbrev pub version_of : History → ℕ → Option (Tree ℕ ℕ)
version_of history version = slice_get history.versions.items version

-- what is set at the path in a version
abbrev pub setting : History → ℕ → Path → Option ℕ
setting history version path = found_in (version_of history version) path

-- what is set there in the last version
abbrev pub latest : History → Path → Option ℕ
latest history path = setting history (count history - 1) path

-- both have the same versions
abbrev pub HaveSameVersions : History → History → Type 0
HaveSameVersions h g = g.versions.items ≡ h.versions.items

-- the path begins with the one of the folder, by bytes: `network` is also below `net`
abbrev pub is_below : Path → Path → Bool
is_below folder path = is_some (behind nat_cmp folder path)

-- two settings differ
abbrev pub are_different : Option ℕ → Option ℕ → Bool
are_different None None = false
are_different None (Some y) = true
are_different (Some x) None = true
are_different (Some x) (Some y) = not (x == y)

-- the path is among the changes
abbrev pub is_changed : Changes → Path → Bool
is_changed changes path = is_some (lookup nat_cmp changes.paths path)
