use Rattle.std.proofs.Common.{◌≡◌, ◌∙◌, ap, arith, length, min, take}
use Rattle.std.specs.Net.Addr.{ipv4_bits}
use Rattle.route_table.specs.Bits.{bits_of}
use Rattle.route_table.proofs.BitsLemmas.{length-bits_of, take-least}
use Rattle.route_table.proofs.prefix.Prefix.new.Goals as goal

pub returns : goal.returns
returns c =
    let bits = bits_of (ipv4_bits c.args.address) in
    let least : c.min.result ≡ min (length bits) c.args.length =
    omega (arith, c.min.ensures, length-bits_of (ipv4_bits c.args.address)) in
    ap (λ l. take c.min.result l) c.address_bits-bits.ensures ∙ take-least c.args.length c.min.result bits least
