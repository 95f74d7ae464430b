use Rattle.vc_sets.proofs.ByForm.{ordered}
use Rattle.vc_sets.proofs.vec_set.borrowed.find_by.Goals as goal

pub look_up-requires : goal.look_up-requires
look_up-requires g c =
    ordered g.T.Ord.cmp (g.Q.Borrowed.side c.args.sought) (g.met.Q.Borrowed.orders_as_equal c.args.sought) g.met.T.Ord.total
    (g.met.Q.Borrowed.stays_behind c.args.sought) (λ x. x) c.args.list.now c.requires
