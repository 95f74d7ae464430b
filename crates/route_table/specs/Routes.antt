-- Routes, as the function that gives each prefix the bytes of its hop's name, if it has a route.
use Rattle.std.specs.Prelude.{◌≡◌, ◌≤◌, cond, ℕ, Bool, List, [], ◌∷◌, length, IsTrue, Option, Some, None}
use Rattle.std.specs.Option.{is_some, option_map}
use Rattle.std.specs.Ordering.{bool_cmp}
use Rattle.std.specs.String.{string_bytes}
use Rattle.vec_collections.specs.Map.{lookup}
use Rattle.route_table.specs.Prefix.{Covers, prefix_bits, same_prefix}
use Rattle.route_table.specs.declared.line.Line.{Line}
use Rattle.route_table.specs.declared.line.Line.TheVariants.{Blank, Add, Withdraw, Decide, Within}
use Rattle.route_table.specs.declared.table.Decision.{Decision}
use Rattle.route_table.specs.declared.table.Table.{Table}

-- what the prefixes have as their hops
abbrev pub Routes : Type 0
Routes = List Bool → Option (List ℕ)

-- the routes of a table
abbrev pub hop_at : Table → Routes
hop_at table prefix = option_map string_bytes (lookup bool_cmp table.hops prefix)

-- the route covers the address, and no route that does is longer
pub record IsLongestRoute (routes : Routes) (address : ℕ) (prefix : List Bool) (hop : List ℕ) : Type 0 where
  pub covers : Covers prefix address
  pub route : routes prefix ≡ Some hop
  pub longest : (other : List Bool) → Covers other address → IsTrue (is_some (routes other)) → length other ≤ length prefix

-- no route covers the address
abbrev pub NoneCovers : Routes → ℕ → Type 0
NoneCovers routes address = (prefix : List Bool) → Covers prefix address → routes prefix ≡ None

-- this is the decision for the address: the longest route that covers it, or none where none does
abbrev pub IsDecided : Routes → ℕ → Option Decision → Type 0
IsDecided routes address None = NoneCovers routes address
IsDecided routes address (Some d) = IsLongestRoute routes address (prefix_bits d.prefix) d.hop.now

-- the routes after a line is applied
abbrev pub routes_with : Line → Routes → Routes
routes_with Blank routes prefix = routes prefix
routes_with (Add p hop) routes prefix = cond (same_prefix (prefix_bits p) prefix) (Some hop.now) (routes prefix)
routes_with (Withdraw p) routes prefix = cond (same_prefix (prefix_bits p) prefix) None (routes prefix)
routes_with (Decide address) routes prefix = routes prefix
routes_with (Within p) routes prefix = routes prefix

-- the routes after these lines, the last of which comes first in the list
abbrev pub routes_after : List Line → Routes
routes_after [] prefix = None
routes_after (line ∷ before) prefix = routes_with line (routes_after before) prefix

-- the table has the routes that these lines lead to
abbrev pub IsAfter : List Line → Table → Type 0
IsAfter lines table = (prefix : List Bool) → hop_at table prefix ≡ routes_after lines prefix
