use Rattle.std.proofs.Common.{◌∙◌, ap, arith, refl, rules}
use Rattle.route_table.specs.Bits.{bits_of}
use Rattle.route_table.proofs.BitsLemmas.{all-bits_of, write-bits_of}
use Rattle.route_table.proofs.prefix.address_bits.Goals as goal

pub loop-place-init : goal.loop-place-init
loop-place-init c = (refl, refl)

pub loop-place-preserved : goal.loop-place-preserved
loop-place-preserved c =
    let so_far = c.loop-place.invariant in
    (search rules, write-bits_of c.to_bits-number.result c.loop-place.bits c.loop-place.place so_far.0 c.loop-place-test.true so_far.1)

pub returns : goal.returns
returns c =
    let so_far = c.loop-place.invariant in
    all-bits_of c.to_bits-number.result c.loop-place.bits c.loop-place.place so_far.0 (omega arith) so_far.1
    ∙ ap (λ n. bits_of n) c.to_bits-number.ensures
