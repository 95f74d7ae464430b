-- The trees that are left are alone.
use Rattle.vc_tree_combines.proofs.Inside.{within-ended}
use Rattle.vc_tree_combines.proofs.engine.end_within.Goals as goal

pub add_lefts-requires : goal.add_lefts-requires
add_lefts-requires g c = rw c.split_at.ensures.back (within-ended c.requires.doing).0

pub returns : goal.returns
returns g c =
    (within-ended c.requires.doing).1 _ (rw c.split_at.ensures.back at c.in_ok-add_lefts.ensures)
    (g.met.O.Combine.says_none c.args.op.now)
