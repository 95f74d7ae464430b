-- What the closure answers, and so what is folded.
use Rattle.std.proofs.Common.{rules, max}
use Rattle.std.specs.Ordering.{nat_cmp}
use Rattle.vec_collections.specs.Folding.{folds-some-as}
use Rattle.vec_collections.specs.Map.{lookup}
use Rattle.vec_collections.specs.Under.{under}
use Rattle.vec_collections.specs.Walk.{IsWalk}
use Rattle.vec_collections_tests.proofs.walks.greatest_port_below.Goals as goal

pub returns : goal.returns
returns g c =
    folds-some-as _ _ (λ most b. max most b.1) (λ held b next t. let s = t.says in let e = t.shows in search rules)
    (IsWalk nat_cmp (under nat_cmp (lookup nat_cmp (g.T.RadixNode.tree c.args.ports.now)) c.args.folder.now)) 0
    c.fold_prefix.result c.fold_prefix.ensures.folded
