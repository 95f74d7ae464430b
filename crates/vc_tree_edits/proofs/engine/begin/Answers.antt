-- The state before anything below is changed, of what the calls before it answered.
use Rattle.std.proofs.Common.{refl}
use Rattle.vc_tree_model.proofs.AlikeLemmas.{tree-alike_canonical}
use Rattle.vc_tree_model.proofs.Shortening.{shortened-canonical}
use Rattle.vc_tree_facing.proofs.Ending.{values-asked, combine-started}
use Rattle.vc_tree_edits.proofs.Changing.{faced-taken, asked-taken}
use Rattle.vc_tree_edits.proofs.Stepping.{stands-apart, stands-fewer}
use Rattle.vc_tree_edits.proofs.engine.begin.Goals as goal

pub change_values-requires-clause-asks : goal.change_values-requires-clause-asks
change_values-requires-clause-asks g c =
    let taken = c.in_ok-prefix.ensures.taken in
    let met = c.meet-front.ensures.met in
    let look = g.O.Change.look g.K.Ord.cmp in
    let asks = g.O.Change.asks c.args.op.now in
    rw taken.value_is (values-asked (faced-taken taken met) g.met.K.Ord.total look asks
    (asked-taken taken met look asks (g.met.O.Change.asks_kept c.args.op.now) c.requires.asks))

pub returns : goal.returns
returns g c =
    let cmp = g.K.Ord.cmp in
    let taken = c.in_ok-prefix.ensures.taken in
    let met = c.meet-front.ensures.met in
    let left = c.in_ok-prefix.field-0.left in
    let right = c.meet-front.result.right in
    let from = c.meet-front.result.right_from in
    let l = c.in_ok-prefix.ensures.stands in
    let r = c.meet-front.ensures.stands in
    let look = g.O.Change.look cmp in
    let asks = g.O.Change.asks c.args.op.now in
    let below = c.in_ok-value.below in
    let canonical = shortened-canonical cmp c.args.i _ c.meet-front.ensures.left_canonical in
    record {
      length_front = c.meet-front.result.front;
      value = c.in_ok-prefix.field-0.value;
      met = met;
      taken = taken;
      apart =
          stands-apart cmp g.T.RadixNode.tree g.B.RadixNode.tree c.args.tree c.args.that.now c.args.i c.args.j _ left right from
          l r met.parts;
      fewer =
          stands-fewer cmp g.T.RadixNode.tree g.B.RadixNode.tree c.args.tree c.args.that.now c.args.i c.args.j _ left right from
          l r taken met;
      said = c.in_ok-value.ensures.value;
      said_below = c.in_ok-value.ensures.below;
      doing =
          combine-started (faced-taken taken met) g.met.K.Ord.total look (g.O.Change.says below) (g.O.Change.asks below)
          (g.met.O.Change.asks_none below) asks c.in_ok-value.ensures.asked
          (asked-taken taken met look asks (g.met.O.Change.asks_kept c.args.op.now) c.requires.asks)
          (tree-alike_canonical g.T.Build.keeps cmp _ taken.taken taken.alike canonical)
          (shortened-canonical cmp c.args.j _ c.meet-front.ensures.right_canonical) refl;
    }
