use Rattle.std.specs.Ordering.{nat_cmp}
use Rattle.vec_collections.specs.Map.{lookup}
use Rattle.vecbench_lines.proofs.Replying.{on_ok-map}
use Rattle.vecbench_lines.proofs.tree_line.TreeLine.answer.Goals as goal

pub returns : goal.returns
returns c =
    on_ok-map c.put_keys.result
    (λ written. (written.0, (lookup nat_cmp c.in_ok-changed.changed, c.in_ok-changed.ensures, written.1), written.2))
    c.put_keys.ensures
