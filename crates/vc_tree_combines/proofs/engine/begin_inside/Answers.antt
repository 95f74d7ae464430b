-- The trees before the one that begins alike are done, and that one is next.
use Rattle.std.proofs.Common.{ap, map, arith}
use Rattle.vc_tree_combines.proofs.Inside.{inside-begun, around-paid}
use Rattle.vc_tree_combines.proofs.engine.begin_inside.Goals as goal

pub add_rights-requires : goal.add_rights-requires
add_rights-requires g c =
    (inside-begun g.met.K.Ord.total g.A.RadixNode.tree g.B.RadixNode.tree c.args.i c.args.a.now
    (g.O.Combine.says c.args.op.now) (g.O.Combine.asks c.args.op.now) (g.met.O.Combine.asks_none c.args.op.now)
    c.prefix.ensures.value c.requires.within c.index-prefix-i.is c.prefix.ensures.canonical c.requires.right c.requires.asks
    (ap (map g.O.Made.RadixNode.tree) c.in_ok-made.ensures.items) c.look_around-around.ensures.around).0

pub returns : goal.returns
returns g c =
    let begun = inside-begun g.met.K.Ord.total g.A.RadixNode.tree g.B.RadixNode.tree c.args.i c.args.a.now
    (g.O.Combine.says c.args.op.now) (g.O.Combine.asks c.args.op.now) (g.met.O.Combine.asks_none c.args.op.now)
    c.prefix.ensures.value c.requires.within c.index-prefix-i.is c.prefix.ensures.canonical c.requires.right c.requires.asks
    (ap (map g.O.Made.RadixNode.tree) c.in_ok-made.ensures.items) c.look_around-around.ensures.around in
    let w = around-paid g.B.RadixNode.tree c.look_around-around.ensures.around in
    let counted = c.look_around-around.ensures.counted in
    record {
      next = rw w.rest (begun.1 _ c.in_ok-add_rights.ensures);
      paid = omega (arith, w.paid, counted);
      left = w.few;
      counted = omega (arith, w.searched, counted);
      fewer = w.fewer;
    }

pub returns-in_err-add_rights-clause-counted : goal.returns-in_err-add_rights-clause-counted
returns-in_err-add_rights-clause-counted g c =
    let w = around-paid g.B.RadixNode.tree c.look_around-around.ensures.around in
    omega (arith, w.searched, c.look_around-around.ensures.counted)
