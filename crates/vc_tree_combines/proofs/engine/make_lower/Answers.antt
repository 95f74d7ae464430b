-- The first tree is next, and then the other one, which is alone.
use Rattle.std.proofs.Common.{refl, ap, map, [], ◌∷◌}
use Rattle.vc_tree_facing.proofs.Next.{asked, done, all-done, left-next, right-next, left_within, right_within}
use Rattle.vc_tree_combines.proofs.Inside.{begun}
use Rattle.vc_tree_combines.proofs.engine.make_lower.Goals as goal

pub add_left-requires : goal.add_left-requires
add_left-requires g c =
    let d = begun g.K.Ord.cmp g.A.RadixNode.tree g.B.RadixNode.tree c.args.i c.args.j (c.args.a.now ∷ []) (c.args.b.now ∷ [])
    (g.O.Combine.says c.args.op.now) (g.O.Combine.asks c.args.op.now) g.met.K.Ord.total (g.met.O.Combine.asks_none c.args.op.now)
    c.requires.left c.requires.right c.requires.asks (ap (map g.O.Made.RadixNode.tree) c.in_ok-made.ensures.items) in
    record { within = left_within d refl; asks = asked (left-next d c.requires.first refl) }

pub add_right-requires : goal.add_right-requires
add_right-requires g c =
    let d = begun g.K.Ord.cmp g.A.RadixNode.tree g.B.RadixNode.tree c.args.i c.args.j (c.args.a.now ∷ []) (c.args.b.now ∷ [])
    (g.O.Combine.says c.args.op.now) (g.O.Combine.asks c.args.op.now) g.met.K.Ord.total (g.met.O.Combine.asks_none c.args.op.now)
    c.requires.left c.requires.right c.requires.asks (ap (map g.O.Made.RadixNode.tree) c.in_ok-made.ensures.items) in
    let one = c.in_ok-add_left.ensures in
    let then = done (left-next d c.requires.first refl) one.is one.made in
    record { within = right_within d refl; asks = asked (right-next then refl refl) }

pub returns : goal.returns
returns g c =
    let d = begun g.K.Ord.cmp g.A.RadixNode.tree g.B.RadixNode.tree c.args.i c.args.j (c.args.a.now ∷ []) (c.args.b.now ∷ [])
    (g.O.Combine.says c.args.op.now) (g.O.Combine.asks c.args.op.now) g.met.K.Ord.total (g.met.O.Combine.asks_none c.args.op.now)
    c.requires.left c.requires.right c.requires.asks (ap (map g.O.Made.RadixNode.tree) c.in_ok-made.ensures.items) in
    let one = c.in_ok-add_left.ensures in
    let two = c.in_ok-add_right.ensures in
    let then = done (left-next d c.requires.first refl) one.is one.made in
    all-done (done (right-next then refl refl) two.is two.made) refl (g.met.O.Combine.says_none c.args.op.now)
