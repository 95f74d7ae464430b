use Rattle.vecbench_lines.proofs.Printing.{list_text-written}
use Rattle.vecbench_lines.proofs.numbers.put_numbers.Goals as goal

pub returns : goal.returns
returns c =
    list_text-written _ _ _ c.args.numbers.now c.loop-number.number-index c.in-len1-up.len_at_least c.in_ok-write.ensures.bytes
    c.loop-number.invariant c.loop-number.auto.number-index-end c.loop-number-test.false
