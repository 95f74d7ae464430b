-- The trees that are left are alone.
use Rattle.vc_tree_combines.proofs.Inside.{inside-ended}
use Rattle.vc_tree_combines.proofs.engine.end_inside.Goals as goal

pub add_rights-requires : goal.add_rights-requires
add_rights-requires g c = rw c.split_at.ensures.back (inside-ended c.requires.doing).0

pub returns : goal.returns
returns g c =
    (inside-ended c.requires.doing).1 _ (rw c.split_at.ensures.back at c.in_ok-add_rights.ensures)
    (g.met.O.Combine.says_none c.args.op.now)
