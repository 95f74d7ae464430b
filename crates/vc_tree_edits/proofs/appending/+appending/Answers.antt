-- Each call goes to trees that are below, and what is made below makes the node.
use Rattle.std.proofs.Common.{◌<◌, ◌+◌, ◌*◌, rules, arith, refl}
use Rattle.std.proofs.lemmas.List.{take_rest}
use Rattle.vc_tree_model.specs.Tree.{nodes, forest_nodes}
use Rattle.vc_tree_nodes.specs.Children.{seen}
use Rattle.vc_tree_facing.specs.Facing.{shortened_in}
use Rattle.vc_tree_facing.proofs.Leaving.{if-ok}
use Rattle.vc_tree_facing.proofs.Next.{meets, left-fewer, right-fewer}
use Rattle.vc_tree_edits.proofs.Appended.{turned-appended, fewer-taken, stands-apart_below}
use Rattle.vc_tree_edits.proofs.Appended.{children-taken, kept-appended, met-taken, made-alike, met-done}
use Rattle.vc_tree_edits.proofs.Placed.{set-again, made-back}
use Rattle.vc_tree_edits.proofs.Sifted.{woven-end, pair-within, pair-next, pair-done}
use Rattle.vc_tree_edits.proofs.Stepping.{made-of}
use Rattle.vc_tree_edits.specs.Appended.{IsAppendedAt}
use Rattle.vc_tree_edits.proofs.appending.+appending.Goals as goal

-- ---- a node

pub append_at-append_below-requires : goal.append_at-append_below-requires
append_at-append_below-requires g t c κs inside =
    let tree = g.T.RadixNode.tree in
    let s = c.split-front.ensures in
    let l = c.in_ok-prefix.ensures in
    let r = c.in_ok-other.ensures in
    let left = children-taken g.K.Ord.cmp c.args.tree c.args.i l.taken s.left in
    let right = children-taken g.K.Ord.cmp c.args.that c.args.j r.taken s.right in
    let apart = stands-apart_below g.K.Ord.cmp tree c.args.tree c.args.that c.args.i c.args.j c.split-front.result
    c.in_ok-prefix.field-0.left c.in_ok-other.field-0.left l.stands r.stands s.parts in
    let fl = fewer-taken c.args.tree c.args.i c.split-front.result c.in_ok-prefix.field-0.left l.stands l.taken in
    let fr = fewer-taken c.args.that c.args.j c.split-front.result c.in_ok-other.field-0.left r.stands r.taken in
    search rules

pub append_at-returns : goal.append_at-returns
append_at-returns g t c =
    let s = c.split-front.ensures in
    let other = c.in_ok-other.ensures.taken in
    let says = IsAppendedAt g.T.Build.keeps c.args.right_wins in
    made-alike g.met.T.Build.keeps_trans c.args.right_wins other.alike
    (made-of {says = says} {R = says} c.in_ok-prefix.ensures.taken (met-taken c.args.tree c.args.that s other) s.total tt
    (kept-appended g.T.Build.keeps g.met.T.Build.keeps_trans c.args.right_wins)
    (rw other.value_is at c.choose_value-value.ensures) (λ v w z a. a) _ c.in_ok-kids.ensures c.in_ok-made.ensures)

-- ---- by what is below

pub append_below-append_list-requires : goal.append_below-append_list-requires
append_below-append_list-requires g t c κs inside =
    let one = c.in_ok-one-in-Children-right.ensures in
    let left = rw c.in-Alone.is at c.requires.left in
    let right = rw c.in-Children-right.is at c.requires.right in
    search rules

pub append_below-returns-in-Alone-right : goal.append_below-returns-in-Alone-right
append_below-returns-in-Alone-right g t c =
    rw (c.in-Alone.is, c.in-Alone-right.is) (if-ok c.in_order.result (λ kids h. h c.args.right_wins) c.in_order.ensures)

pub append_below-returns-in_ok-one-in-Children-right : goal.append_below-returns-in_ok-one-in-Children-right
append_below-returns-in_ok-one-in-Children-right g t c =
    rw (c.in-Alone.is, c.in-Children-right.is)
    (if-ok c.append_list.result
    (λ kids h. (
      h.0,
      λ x q. turned-appended g.T.Build.keeps c.args.right_wins _ _ _
          (rw c.in_ok-one-in-Children-right.ensures at h.1 x q),
    )) c.append_list.ensures)

pub append_below-returns-in_ok-one-in-Alone-right-2 : goal.append_below-returns-in_ok-one-in-Alone-right-2
append_below-returns-in_ok-one-in-Alone-right-2 g t c =
    rw (c.in-Children.is, c.in-Alone-right-2.is)
    (rw c.in_ok-one-in-Alone-right-2.ensures at c.append_list-in-Alone-right-2.ensures)

pub append_below-returns-then-len : goal.append_below-returns-then-len
append_below-returns-then-len g t c =
    rw (c.in-Children.is, c.in-Children-right-2.is)
    (if-ok c.append_list-then-len.result
    (λ kids h. (h.0, λ x q. turned-appended g.T.Build.keeps c.args.right_wins _ _ _ (h.1 x q))) c.append_list-then-len.ensures)

pub append_below-returns-else-len : goal.append_below-returns-else-len
append_below-returns-else-len g t c =
    rw (c.in-Children.is, c.in-Children-right-2.is) c.append_list-else-len.ensures

-- ---- a list

pub append_list-weave-requires : goal.append_list-weave-requires
append_list-weave-requires g t c =
    let p = rw (c.deref.ensures.value, take_rest c.pairs.list.items c.pairs.at) at c.in_ok-passed.ensures.next in
    let passed = c.pass-kept.ensures in
    let noted = met-done g.met.T.Build.keeps_refl c.pairs.invariant p _ _ passed.built passed.rest in
    rw c.truncate.ensures.items (record { within = noted.1 })

pub append_list-returns-in_default : goal.append_list-returns-in_default
append_list-returns-in_default g t c =
    let p = rw (c.deref.ensures.value, take_rest c.pairs.list.items c.pairs.at) at c.in_ok-passed.ensures.next in
    let passed = c.pass-kept.ensures in
    let noted = met-done g.met.T.Build.keeps_refl c.pairs.invariant p _ _ passed.built passed.rest in
    if-ok c.weave.result
    (λ kids e. woven-end _ _ p.pair _ passed.rest c.in_ok-passed.field-0.right.comers.items c.in_default.is tt noted.0
    c.truncate.ensures.items e) c.weave.ensures

pub append_list-append_at-requires : goal.append_list-append_at-requires
append_list-append_at-requires g t c κs inside =
    let p = rw (c.deref.ensures.value, take_rest c.pairs.list.items c.pairs.at) at c.in_ok-passed.ensures.next in
    let passed = c.pass-kept.ensures in
    let noted = met-done g.met.T.Build.keeps_refl c.pairs.invariant p _ _ passed.built passed.rest in
    let n = pair-next _ _ p.pair _ passed.rest c.in-Some.is noted.0 _ c.take_at-tree.ensures.tree in
    let may = meets n refl in
    let fr = right-fewer n in
    let fl = left-fewer n in
    let down : 4 * (nodes (g.T.RadixNode.tree c.take_at-tree.result) + nodes (g.T.RadixNode.tree c.in-Some.that)) + 3
    < 4 * (forest_nodes (seen g.T.RadixNode.tree c.args.list.items)
    + forest_nodes (shortened_in g.T.RadixNode.tree c.args.from c.args.others.items)) + 5 = omega (arith, fl, fr) in
    search rules

pub append_list-pairs-preserved : goal.append_list-pairs-preserved
append_list-pairs-preserved g t c =
    let p = rw (c.deref.ensures.value, take_rest c.pairs.list.items c.pairs.at) at c.in_ok-passed.ensures.next in
    let passed = c.pass-kept.ensures in
    let noted = met-done g.met.T.Build.keeps_refl c.pairs.invariant p _ _ passed.built passed.rest in
    let within = pair-within _ _ p.pair _ passed.rest c.in-Some.is in
    let n = pair-next _ _ p.pair _ passed.rest c.in-Some.is noted.0 _ c.take_at-tree.ensures.tree in
    let s = set-again c.take_at-tree.ensures.left.1 c.put_back-stays.ensures.1 in
    let back = c.put_back-stays.ensures in
    let made =
    rw (made-back g.T.RadixNode.tree c.put_back-stays.result back.0 c.in_ok-made.made back.2) at c.in_ok-made.ensures in
    let last = c.pass-kept-in-pairs.ensures in
    let done = pair-done _ n noted.1 c.put_back-stays.result made passed.order _ s _ _ last.built last.rest in
    record { order = last.order; within = omega (arith, last.long, s.long, within); places = done.1; going = done.0 }
