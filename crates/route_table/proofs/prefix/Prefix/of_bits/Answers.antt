use Rattle.route_table.proofs.BitsLemmas.{take-copied}
use Rattle.route_table.proofs.prefix.Prefix.of_bits.Goals as goal

pub returns : goal.returns
returns c = take-copied 32 c.min-length.result c.args.bits.now c.copy_from_slice.new.self _ c.min-length.ensures
    c.copy_from_slice.ensures.after
