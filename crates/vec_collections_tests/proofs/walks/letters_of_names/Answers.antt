-- What the closure answers, and so what is folded.
use Rattle.std.proofs.Common.{rules, ◌+◌, ◌-◌, ◌^◌, length, min}
use Rattle.vec_collections.specs.Folding.{folds-as}
use Rattle.vec_collections.specs.Walk.{walk}
use Rattle.vec_collections_tests.proofs.walks.letters_of_names.Goals as goal

pub returns : goal.returns
returns g c =
    folds-as _ _ (λ sum b. min (sum + length b.0) (2 ^ 64 - 1)) (λ held b next t. let s = t.says in let e = t.shows in search rules)
    (walk (g.T.RadixNode.tree c.args.ports.now)) 0 c.fold.result c.fold.ensures.folded
