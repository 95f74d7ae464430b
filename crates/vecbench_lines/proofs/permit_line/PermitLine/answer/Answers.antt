use Rattle.std.proofs.Common.{◌≡◌}
use Rattle.std.specs.Ordering.{nat_cmp}
use Rattle.vec_collections.specs.Map.{lookup}
use Rattle.vecbench_lines.proofs.Listing.{restricted-listed}
use Rattle.vecbench_lines.proofs.Replying.{on_ok-map}
use Rattle.vecbench_lines.proofs.permit_line.PermitLine.answer.Goals as goal

pub returns : goal.returns
returns c =
    let line = c.args.self in
    on_ok-map c.put_keys.result
    (λ written. (
      written.0,
      restricted-listed line.filter (λ v w. v ≡ w) (lookup nat_cmp line.tree) _ written.0 c.in_ok-restrict.ensures.ok written.1,
      written.2,
    ))
    c.put_keys.ensures
