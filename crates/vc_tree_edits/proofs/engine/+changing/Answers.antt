-- The recursion of a change in place: each call goes to trees that stand below, and what is made below makes the node.
use Rattle.std.proofs.Common.{◌≡◌, ◌<◌, ◌+◌, ◌*◌, [], ◌≤◌, rules, arith, refl, ap, map}
use Rattle.std.specs.Option.{option_copied, option_to_list}
use Rattle.vc_tree_model.specs.Tree.{nodes, forest_nodes}
use Rattle.vc_tree_nodes.specs.Children.{seen}
use Rattle.vc_tree_facing.specs.Facing.{shortened_in}
use Rattle.vc_tree_facing.proofs.Leaving.{if-ok}
use Rattle.vc_tree_facing.proofs.Next.{doing-start, asked, meets, made-left, left-fewer, right-fewer}
use Rattle.vc_tree_edits.specs.Pairs.{trees_of}
use Rattle.vc_tree_edits.specs.Taken.{meeting_nodes}
use Rattle.vc_tree_edits.specs.Woven.{woven}
use Rattle.vc_tree_edits.proofs.Beside.{one-next, one-made, next-agree, next-fewer}
use Rattle.vc_tree_edits.proofs.Coming.{coming-done}
use Rattle.vc_tree_edits.proofs.Passing.{one-within}
use Rattle.vc_tree_edits.proofs.Placed.{set-again, made-back}
use Rattle.vc_tree_edits.proofs.Sifted.{woven-end, pair-within, pair-next, pair-done}
use Rattle.vc_tree_edits.proofs.Stepping.{made-of}
use Rattle.vc_tree_edits.proofs.engine.+changing.Goals as goal

-- ---- a node

pub change_at-change_below-requires : goal.change_at-change_below-requires
change_at-change_below-requires g t c κs inside =
    let b = c.in_ok-prefix.ensures in
    let left = b.doing.left in
    let right = b.doing.right in
    let asks = b.doing.asked in
    let apart = b.apart in
    let fewer = b.fewer in
    search rules

pub change_at-finish_in-requires : goal.change_at-finish_in-requires
change_at-finish_in-requires g t c = c.in_ok-kids.ensures.0

pub change_at-returns : goal.change_at-returns
change_at-returns g t c =
    let s = c.in_ok-prefix.ensures in
    made-of s.taken s.met s.doing.total (g.met.O.Change.says_none c.args.op.now) (g.met.O.Change.says_kept c.args.op.now) s.said
    s.said_below _ c.in_ok-kids.ensures c.in_ok-made.ensures

-- ---- by what is below

pub change_below-change_one-requires : goal.change_below-change_one-requires
change_below-change_one-requires g t c κs inside =
    let zero : c.args.right_from ≡ 0 = rw (c.in-Alone.is, c.in-Many.is) at c.requires.apart in
    let left = rw c.in-Alone.is at c.requires.left in
    let right = rw (c.in-Many.is, zero) at c.requires.right in
    let asks = rw (c.in-Alone.is, c.in-Many.is, zero) at c.requires.asks in
    let down : 4 * (nodes (g.T.RadixNode.tree c.in-Alone.tree)
    + forest_nodes (seen g.B.RadixNode.tree c.in-Many.others.now)) + 5
    < 4 * meeting_nodes g.K.Ord.cmp g.T.RadixNode.tree g.B.RadixNode.tree c.args.left c.args.right c.args.right_from + 2 =
    rw (c.in-Alone.is, c.in-Many.is, zero) (omega arith) in
    search rules

pub change_below-returns-in-Many : goal.change_below-returns-in-Many
change_below-returns-in-Many g t c =
    let zero : c.args.right_from ≡ 0 = rw (c.in-Alone.is, c.in-Many.is) at c.requires.apart in
    rw (c.in-Alone.is, c.in-Many.is, zero) c.change_one.ensures

-- ---- a tree that continues, beside children

pub change_one-change_beside-requires : goal.change_one-change_beside-requires
change_one-change_beside-requires g t c κs inside =
    let op = c.args.op.now in
    let around = c.look_around.ensures in
    let n =
    one-next g.T.RadixNode.tree g.B.RadixNode.tree c.args.from (g.O.Change.look g.K.Ord.cmp) (g.O.Change.says op)
    (g.O.Change.asks op) c.args.tree g.met.K.Ord.total (g.met.O.Change.asks_none op) c.requires.left c.requires.right
    c.requires.asks _ around.parts around.sought _ _ c.in_ok-kids.ensures.items c.in_ok-come.ensures in
    let within = one-within g.K.Ord.cmp g.met.K.Ord.total g.T.RadixNode.tree c.args.from c.args.tree c.requires.left in
    let known = next-agree c.look_around.result.found n in
    let asks = asked n in
    let fewer : forest_nodes (seen g.B.RadixNode.tree (option_to_list (option_copied c.look_around.result.found)))
    ≤ forest_nodes (seen g.B.RadixNode.tree c.args.others.now) = next-fewer _ n in
    search rules

pub change_one-returns : goal.change_one-returns
change_one-returns g t c =
    let op = c.args.op.now in
    let around = c.look_around.ensures in
    let n =
    one-next g.T.RadixNode.tree g.B.RadixNode.tree c.args.from (g.O.Change.look g.K.Ord.cmp) (g.O.Change.says op)
    (g.O.Change.asks op) c.args.tree g.met.K.Ord.total (g.met.O.Change.asks_none op) c.requires.left c.requires.right
    c.requires.asks _ around.parts around.sought _ _ c.in_ok-kids.ensures.items c.in_ok-come.ensures in
    one-made _ n c.in_ok-kid.ensures _ _ c.in_ok-keep.ensures c.in_ok-come-2.ensures (g.met.O.Change.says_none c.args.op.now)

pub change_beside-returns-in_ok-leave-in-None : goal.change_beside-returns-in_ok-leave-in-None
change_beside-returns-in_ok-leave-in-None g t c = rw c.in-None.is (made-left c.in_ok-leave-in-None.ensures)

-- ---- a list

pub change_list-pairs-init : goal.change_list-pairs-init
change_list-pairs-init g t c =
    let none = c.new-comers.ensures.items in
    record {
      order = omega arith;
      within = omega arith;
      places = rw none tt;
      going =
          doing-start g.met.K.Ord.total (g.met.O.Change.asks_none c.args.op.now) c.requires.left c.requires.right c.requires.asks
          (ap (λ cs. map g.T.RadixNode.tree (woven 0 [] cs)) none);
    }

pub change_list-weave-requires : goal.change_list-weave-requires
change_list-weave-requires g t c =
    let inv = c.pairs.invariant in
    let p = rw c.deref.ensures.value at c.in_ok-passed.ensures in
    let passed = c.pass-kept.ensures in
    let noted =
    coming-done g.T.Build.keeps g.met.T.Build.keeps_refl (g.met.O.Change.says_left c.args.op.now) _ _ _ _ _ inv.going inv.places
    (omega (arith, inv.order, inv.within)) p _ _ passed.built passed.rest in
    rw c.truncate.ensures.items (record { within = noted.1 })

pub change_list-returns-in_default : goal.change_list-returns-in_default
change_list-returns-in_default g t c =
    let inv = c.pairs.invariant in
    let p = rw c.deref.ensures.value at c.in_ok-passed.ensures in
    let passed = c.pass-kept.ensures in
    let noted =
    coming-done g.T.Build.keeps g.met.T.Build.keeps_refl (g.met.O.Change.says_left c.args.op.now) _ _ _ _ _ inv.going inv.places
    (omega (arith, inv.order, inv.within)) p _ _ passed.built passed.rest in
    if-ok c.weave.result
    (λ kids e. woven-end _ _ p.pair _ passed.rest c.next_noted.new.comers.items (ap option_copied c.in_default.is)
    (g.met.O.Change.says_none c.args.op.now) noted.0 c.truncate.ensures.items e) c.weave.ensures

pub change_list-change_at-requires : goal.change_list-change_at-requires
change_list-change_at-requires g t c κs (w₀, (w₁, (w₂, (w₃, (w₄, (w₅, (w₆, w₇))))))) =
    let inv = c.pairs.invariant in
    let p = rw c.deref.ensures.value at c.in_ok-passed.ensures in
    let passed = c.pass-kept.ensures in
    let noted =
    coming-done g.T.Build.keeps g.met.T.Build.keeps_refl (g.met.O.Change.says_left c.args.op.now) _ _ _ _ _ inv.going inv.places
    (omega (arith, inv.order, inv.within)) p _ _ passed.built passed.rest in
    let n = pair-next _ _ p.pair _ passed.rest (ap option_copied c.in-Some.is) noted.0 _ c.take_at-tree.ensures.tree in
    let may = meets n refl in
    let fr = right-fewer n in
    let fl = left-fewer n in
    let down : 4 * (nodes (g.T.RadixNode.tree c.take_at-tree.result) + nodes (g.B.RadixNode.tree c.in-Some.other.now)) + 3
    < 4 * (forest_nodes (seen g.T.RadixNode.tree c.args.list.items)
    + forest_nodes (shortened_in g.B.RadixNode.tree c.args.right_from (trees_of c.args.right))) + 5 = omega (arith, fl, fr) in
    (search rules, (w₀, (w₁, (w₂, (w₃, (w₄, (w₅, (w₆, (w₇, (may.left_within, (may.right_within, (may.agree, may.may))))))))))))

pub change_list-pairs-preserved : goal.change_list-pairs-preserved
change_list-pairs-preserved g t c =
    let inv = c.pairs.invariant in
    let p = rw c.deref.ensures.value at c.in_ok-passed.ensures in
    let passed = c.pass-kept.ensures in
    let noted =
    coming-done g.T.Build.keeps g.met.T.Build.keeps_refl (g.met.O.Change.says_left c.args.op.now) _ _ _ _ _ inv.going inv.places
    (omega (arith, inv.order, inv.within)) p _ _ passed.built passed.rest in
    let within = pair-within _ _ p.pair _ passed.rest (ap option_copied c.in-Some.is) in
    let n = pair-next _ _ p.pair _ passed.rest (ap option_copied c.in-Some.is) noted.0 _ c.take_at-tree.ensures.tree in
    let s = set-again c.take_at-tree.ensures.left.1 c.put_back-stays.ensures.1 in
    let back = c.put_back-stays.ensures in
    let made = rw (made-back g.T.RadixNode.tree c.put_back-stays.result back.0 c.in_ok-made.made back.2) at c.in_ok-made.ensures in
    let last = c.pass-kept-in-pairs.ensures in
    let done = pair-done _ n noted.1 c.put_back-stays.result made passed.order _ s _ _ last.built last.rest in
    record { order = last.order; within = omega (arith, last.long, s.long, within); places = done.1; going = done.0 }
