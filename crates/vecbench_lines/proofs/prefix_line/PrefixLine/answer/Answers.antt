use Rattle.std.specs.Ordering.{nat_cmp}
use Rattle.vec_collections.specs.Allowed.{is_allowed}
use Rattle.vec_collections.specs.Map.{lookup}
use Rattle.vecbench_lines.proofs.Listing.{left-listed}
use Rattle.vecbench_lines.proofs.Replying.{on_ok-map}
use Rattle.vecbench_lines.proofs.prefix_line.PrefixLine.answer.Goals as goal

pub returns : goal.returns
returns c =
    let line = c.args.self in
    on_ok-map c.put_keys.result
    (λ written. (
      written.0,
      left-listed line.operation (is_allowed nat_cmp line.filter)
          (lookup nat_cmp line.tree) _ written.0 c.in_ok-left.ensures written.1,
      written.2,
    ))
    c.put_keys.ensures
