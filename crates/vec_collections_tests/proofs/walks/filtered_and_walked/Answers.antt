-- The law, of what both calls say, where a copy of a number is that number.
use Rattle.std.proofs.Common.{◌≡◌}
use Rattle.std.specs.Ordering.{nat_cmp}
use Rattle.vec_collections.specs.Exact.{kept-exact}
use Rattle.vec_collections.specs.Map.{lookup}
use Rattle.vec_collections_tests.proofs.walks.filtered_and_walked.Goals as goal

pub returns : goal.returns
returns c =
    c.walk_is_filtered.ensures (lookup nat_cmp c.args.ports.now) (lookup nat_cmp c.in_ok-made.made) _ c.args.prefix.now
    c.scan_prefix.ensures (λ k. kept-exact (λ x y. y ≡ x) (λ x y e. e) _ _ (c.in_ok-made.ensures.made k))
