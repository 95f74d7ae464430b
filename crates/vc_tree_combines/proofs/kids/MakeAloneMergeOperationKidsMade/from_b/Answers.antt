-- Each of these trees is the next one, since all of them are below the other list.
use Rattle.std.proofs.Common.{refl}
use Rattle.vc_tree_combines.proofs.Runs.{first-rights}
use Rattle.vc_tree_combines.proofs.kids.MakeAloneMergeOperationKidsMade.from_b.Goals as goal

pub add_rights-requires : goal.add_rights-requires
add_rights-requires g c =
    (first-rights c.requires.ready c.args.n c.requires.alone c.split_at.ensures.front c.split_at.ensures.back).0

pub returns : goal.returns
returns g c =
    let done = (first-rights c.requires.ready c.args.n c.requires.alone c.split_at.ensures.front c.split_at.ensures.back).1
    _ c.in_ok-add_rights.ensures in
    record { gives = (refl, done); takes = λ go. (refl, c.split_at.ensures.back, done) }
