-- The bits so far are the first ones.
use Rattle.std.proofs.Common.{◌≡◌, length, take}
use Rattle.route_table.specs.Bits.{bits_of}
use Rattle.route_table.proofs.prefix.address_bits.Given as goal

abbrev pub invariant-loop-place : goal.invariant-loop-place
invariant-loop-place l = (length l.bits ≡ 32) × (take l.place l.bits ≡ take l.place (bits_of l.number))
