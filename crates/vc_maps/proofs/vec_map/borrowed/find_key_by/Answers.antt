use Rattle.vc_maps.proofs.ByForm.{pairs-ordered}
use Rattle.vc_maps.proofs.vec_map.borrowed.find_key_by.Goals as goal

pub look_up-requires : goal.look_up-requires
look_up-requires g c = pairs-ordered (g.met.Q.Borrowed.orders_as_equal c.args.sought) g.met.K.Ord.total
    (g.met.Q.Borrowed.stays_behind c.args.sought) c.args.pairs.now c.requires
