-- Each of these trees is the next one, since all of them are below the other list.
use Rattle.std.proofs.Common.{refl}
use Rattle.vc_tree_combines.proofs.Runs.{first-lefts}
use Rattle.vc_tree_combines.proofs.kids.MakeAloneMergeOperationKidsMade.from_a.Goals as goal

pub add_lefts-requires : goal.add_lefts-requires
add_lefts-requires g c =
    (first-lefts c.requires.ready c.args.n c.requires.alone c.split_at.ensures.front c.split_at.ensures.back).0

pub returns : goal.returns
returns g c =
    let done = (first-lefts c.requires.ready c.args.n c.requires.alone c.split_at.ensures.front c.split_at.ensures.back).1
    _ c.in_ok-add_lefts.ensures in
    record { gives = (refl, done); takes = λ go. (c.split_at.ensures.back, refl, done) }
