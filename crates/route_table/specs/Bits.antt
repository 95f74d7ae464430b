-- The bits of IPv4 addresses.
use Rattle.std.specs.Prelude.{ℕ, Bool, ◌==◌, List, [], ◌∷◌, zero, suc}
use Rattle.std.specs.Int.{bit_at}

-- this many of the lowest bits of a number, the highest of them first
abbrev pub low_bits : ℕ → ℕ → List Bool
low_bits zero number = []
low_bits (suc place) number = (bit_at number place == 1) ∷ low_bits place number

-- the bits of an address, the most significant one first
unfoldable pub bits_of : ℕ → List Bool
bits_of address = low_bits 32 address
