-- Prefixes of addresses.
use Rattle.std.specs.Prelude.{◌≡◌, ℕ, Bool, List, length, take}
use Rattle.std.specs.Ordering.{bool_cmp}
use Rattle.vec_collections.specs.Key.{same_key}
use Rattle.route_table.specs.Bits.{bits_of}
use Rattle.route_table.specs.declared.prefix.Prefix.{Prefix}

-- the bits of a prefix
abbrev pub prefix_bits : Prefix → List Bool
prefix_bits prefix = take prefix.length prefix.bits

-- both are the same prefix
abbrev pub same_prefix : List Bool → List Bool → Bool
same_prefix prefix other = same_key bool_cmp prefix other

-- the prefix covers the address: its bits are the first ones of the address
abbrev pub Covers : List Bool → ℕ → Type 0
Covers prefix address = prefix ≡ take (length prefix) (bits_of address)
