-- The tree of a run is that of its groups, below what all of its keys have in common.
use Rattle.std.proofs.Common.{◌≤◌, ◌<◌, length-drop, ap, ◌∙◌, arith, rules, length}
use Rattle.std.proofs.lemmas.Result.{IfOk-weaker}
use Rattle.std.specs.Vec.Iter.{into_iter_items}
use Rattle.vc_tree_nodes.proofs.Growing.{solid-canonical}
use Rattle.vc_tree_nodes.proofs.Groups.{groups-more, built-one, built-ended, open-from, two-solid, above-none}
use Rattle.vc_tree_nodes.proofs.Groups.{one-group, on-any}
use Rattle.vc_tree_nodes.proofs.Runs.{group-run, group-within, group-rest, on-run, group-parts, run-least}
use Rattle.vc_tree_nodes.proofs.Runs.{first-ends, first-longer, length-longer, drop-further}
use Rattle.vc_tree_nodes.proofs.ascending.+ascending.Goals as goal

-- ---- group by group

pub build_groups-split_at-requires : goal.build_groups-split_at-requires
build_groups-split_at-requires g t c =
    (group-within (λ s. s.common) c.args.depth c.group_len.result c.loop-rest.rest.now c.group_len.ensures).1

pub build_groups-build_run-requires : goal.build_groups-build_run-requires
build_groups-build_run-requires g t c κs within =
    let inside = (group-within (λ s. s.common) c.args.depth c.group_len.result c.loop-rest.rest.now c.group_len.ensures).1 in
    let run = rw (← c.split_at.ensures.front) at
    (group-run g.K.Ord.cmp (λ s. g.S.Spelled.components s.key) (λ s. s.common) c.args.depth c.group_len.result
    c.loop-rest.rest.now c.loop-rest.invariant.behind c.group_len.ensures) in
    let all = c.loop-rest.invariant.within in
    let enough = c.loop-rest.invariant.enough in
    let size = c.split_at.ensures.front_len in
    search rules

pub build_groups-loop-rest-preserved : goal.build_groups-loop-rest-preserved
build_groups-loop-rest-preserved g t c =
    groups-more g.K.Ord.cmp g.T.RadixNode.tree (λ s. g.S.Spelled.components s.key) (λ s. s.common) g.met.K.Ord.total
    c.group_len.result c.in_ok-build_run.field-0 c.loop-rest.invariant c.group_len.ensures c.split_at.ensures.front
    c.split_at.ensures.back
    (rw c.split_at.ensures.front_len at c.in_ok-build_run.ensures.left) c.in_ok-push.ensures.items c.in_ok-build_run.ensures.built

-- ---- one key, or more

pub build_run-returns-then-run-eq1-clause-built : goal.build_run-returns-then-run-eq1-clause-built
build_run-returns-then-run-eq1-clause-built g t c =
    IfOk-weaker c.single.result _ _
    (λ one is. built-one g.K.Ord.cmp (λ s. g.S.Spelled.components s.key) (λ s. s.common) g.met.K.Ord.total
    c.index-run-0.result c.if-run-eq1.true c.take_next.ensures c.as_key-key.ensures is) c.single.ensures.is

pub build_run-build_ended-requires : goal.build_run-build_ended-requires
build_run-build_ended-requires g t c κs within =
    let some : 0 < length c.args.run.now = omega (arith, c.split_at.ensures.back_len) in
    let two : 1 < length c.args.run.now = omega (arith, some, c.if-run-eq1.false) in
    let run =
    run-least g.K.Ord.cmp (λ s. g.S.Spelled.components s.key) (λ s. s.common) c.args.depth c.least_common-common.result.0
    c.args.run.now c.split_at.result.1.now c.split_at.ensures.back c.requires.run
    c.least_common-common.ensures.least c.least_common-common.ensures.has in
    let behind = run.0 in
    let deeper = run.1 in
    let ends =
    first-ends g.K.Ord.cmp (λ s. g.S.Spelled.components s.key) (λ s. s.common) c.least_common-common.result.0
    c.args.run.now c.index-run-0.result c.as_key-key.result.now some c.as_key-key.ensures c.if-common-key.true in
    let enough = c.requires.values in
    search rules

pub build_run-build_open-requires : goal.build_run-build_open-requires
build_run-build_open-requires g t c κs within =
    let size = c.split_at.ensures.back_len in
    let some : 0 < length c.args.run.now = omega (arith, size) in
    let run =
    run-least g.K.Ord.cmp (λ s. g.S.Spelled.components s.key) (λ s. s.common) c.args.depth c.least_common-common.result.0
    c.args.run.now c.split_at.result.1.now c.split_at.ensures.back c.requires.run
    c.least_common-common.ensures.least c.least_common-common.ensures.has in
    let on =
    first-longer g.K.Ord.cmp (λ s. g.S.Spelled.components s.key) (λ s. s.common) c.least_common-common.result.0
    c.args.run.now c.index-run-0.result c.as_key-key.result.now some c.as_key-key.ensures c.if-common-key.false run.0 in
    let parts = rw c.split_at.ensures.back at c.least_common-common.ensures.has in
    let deeper = run.1 in
    let enough = c.requires.values in
    let few = c.least_common-common.ensures.count in
    let count : c.least_common-common.result.1 < length c.args.run.now = omega (arith, size, few) in
    search rules

-- ---- the first key ends where the others part

pub build_ended-build_groups-requires : goal.build_ended-build_groups-requires
build_ended-build_groups-requires g t c κs within =
    let size = c.split_at.ensures.back_len in
    let two = c.requires.two in
    let some : 0 < length c.split_at.result.1.now = omega (arith, size, two) in
    let run = rw (← c.split_at.ensures.back) at
    (group-rest g.K.Ord.cmp (λ s. g.S.Spelled.components s.key) (λ s. s.common) c.args.common 1 c.args.run.now
    (omega arith) c.requires.run) in
    let taken = ap length c.take_next-value.ensures in
    let all = c.requires.values in
    let enough : length c.split_at.result.1.now ≤ length (into_iter_items c.take_next-value.new.values) =
    omega (arith, size, taken, all) in
    let none = c.in_ok-children.ensures.items in
    let above =
    above-none g.K.Ord.cmp (λ s. g.S.Spelled.components s.key) (λ s. s.common) g.met.K.Ord.total g.T.RadixNode.tree
    c.args.common c.split_at.result.1.now _ c.in_ok-children.ensures.items in
    search rules

pub build_ended-offset_bounds-key-depth : goal.build_ended-offset_bounds-key-depth
build_ended-offset_bounds-key-depth g t c = grind (arith, c.requires.ends, c.as_key-key.ensures, c.requires.deeper)

pub build_ended-slice_bounds-new_node-end : goal.build_ended-slice_bounds-new_node-end
build_ended-slice_bounds-new_node-end g t c = grind (arith, c.requires.ends, c.as_key-key.ensures)

pub build_ended-new_node-requires : goal.build_ended-new_node-requires
build_ended-new_node-requires g t c = solid-canonical g.K.Ord.cmp _ _ _ tt c.in_ok-build_groups.ensures.children

pub build_ended-returns-clause-built : goal.build_ended-returns-clause-built
build_ended-returns-clause-built g t c =
    IfOk-weaker c.new_node.result _ _
    (λ one is. built-ended g.K.Ord.cmp (λ s. g.S.Spelled.components s.key) (λ s. s.common) g.met.K.Ord.total
    g.T.RadixNode.tree c.args.common c.index-run-0.result c.build_groups.new.children.items c.requires.deeper c.requires.run
    c.requires.ends c.take_next-value.ensures c.split_at.ensures.back c.in_ok-build_groups.ensures.children
    (rw c.in_ok-children.ensures.items at c.in_ok-build_groups.ensures.pairs) c.as_key-key.ensures is)
    c.new_node.ensures

pub build_ended-returns-clause-left : goal.build_ended-returns-clause-left
build_ended-returns-clause-left g t c =
    on-any c.new_node.result (grind (
      arith,
      c.requires.two,
      c.take_next-value.ensures,
      c.split_at.ensures.back,
      c.in_ok-build_groups.ensures.left,
    ))

-- ---- all keys go on where they part

pub build_open-split_at-requires : goal.build_open-split_at-requires
build_open-split_at-requires g t c =
    (group-within (λ s. s.common) c.args.common c.group_len.result c.args.run.now c.group_len.ensures).1

pub build_open-build_run-requires : goal.build_open-build_run-requires
build_open-build_run-requires g t c κs within =
    let few =
    group-parts (λ s. s.common) c.args.common c.group_len.result c.args.run.now c.group_len.ensures c.requires.parts in
    let run = rw (← c.split_at.ensures.front) at
    (group-run g.K.Ord.cmp (λ s. g.S.Spelled.components s.key) (λ s. s.common) c.args.common c.group_len.result
    c.args.run.now c.requires.run c.group_len.ensures) in
    let enough = c.requires.values in
    let size = c.split_at.ensures.front_len in
    search rules

pub build_open-build_groups-requires : goal.build_open-build_groups-requires
build_open-build_groups-requires g t c κs within =
    let nonzero = (group-within (λ s. s.common) c.args.common c.group_len.result c.args.run.now c.group_len.ensures).0 in
    let few =
    group-parts (λ s. s.common) c.args.common c.group_len.result c.args.run.now c.group_len.ensures c.requires.parts in
    let size = c.split_at.ensures.back_len in
    let front = c.split_at.ensures.front_len in
    let some : 0 < length c.split_at.result.1.now = omega (arith, size, few) in
    let run = rw (← c.split_at.ensures.back) at
    (group-rest g.K.Ord.cmp (λ s. g.S.Spelled.components s.key) (λ s. s.common) c.args.common c.group_len.result
    c.args.run.now nonzero (on-run g.K.Ord.cmp (λ s. g.S.Spelled.components s.key) (λ s. s.common) c.args.common c.args.run.now
    c.requires.some c.requires.run)) in
    let taken =
    ap length c.in_ok-build_run.ensures.left
    ∙ length-drop (length c.split_at.result.0.now) (into_iter_items c.args.values.now) in
    let all = c.requires.values in
    let enough : length c.split_at.result.1.now ≤ length (into_iter_items c.build_run.new.values) =
    omega (arith, size, front, taken, all) in
    let both =
    one-group g.K.Ord.cmp (λ s. g.S.Spelled.components s.key) (λ s. s.common) g.met.K.Ord.total g.T.RadixNode.tree
    c.group_len.result c.args.run.now c.requires.run c.group_len.ensures c.split_at.ensures.front c.split_at.ensures.back
    c.in_ok-build_run.ensures.built (rw c.in_ok-children.ensures.items at c.in_ok-push.ensures.items) in
    let children = both.0 in
    let above = both.1 in
    search rules

pub build_open-offset_bounds-key-depth : goal.build_open-offset_bounds-key-depth
build_open-offset_bounds-key-depth g t c =
    omega (
      arith,
      length-longer g.K.Ord.cmp (λ s. g.S.Spelled.components s.key) (λ s. s.common) c.args.common c.args.run.now
          c.index-run-0.result c.requires.some c.requires.run c.as_key-key.ensures,
      c.requires.deeper,
    )

pub build_open-slice_bounds-new_node-end : goal.build_open-slice_bounds-new_node-end
build_open-slice_bounds-new_node-end g t c =
    omega (
      arith,
      length-longer g.K.Ord.cmp (λ s. g.S.Spelled.components s.key) (λ s. s.common) c.args.common c.args.run.now
          c.index-run-0.result c.requires.some c.requires.run c.as_key-key.ensures,
    )

pub build_open-new_node-requires : goal.build_open-new_node-requires
build_open-new_node-requires g t c =
    let size = ap length (rw c.in_ok-children.ensures.items at c.in_ok-push.ensures.items) in
    solid-canonical g.K.Ord.cmp _ _ _
    (two-solid g.T.RadixNode.tree c.build_groups.new.children.items (omega (arith, size, c.in_ok-build_groups.ensures.more)))
    c.in_ok-build_groups.ensures.children

pub build_open-returns-clause-built : goal.build_open-returns-clause-built
build_open-returns-clause-built g t c =
    let one = rw c.in_ok-children.ensures.items at c.in_ok-push.ensures.items in
    let size = ap length one in
    IfOk-weaker c.new_node.result _ _
    (λ made is. open-from g.K.Ord.cmp (λ s. g.S.Spelled.components s.key) (λ s. s.common) g.met.K.Ord.total
    g.T.RadixNode.tree c.args.common c.group_len.result c.index-run-0.result c.build_groups.new.children.items
    c.requires.deeper c.requires.some c.requires.values c.requires.run c.requires.parts
    c.group_len.ensures c.split_at.ensures.front c.split_at.ensures.back
    (rw c.split_at.ensures.front_len at c.in_ok-build_run.ensures.left)
    one c.in_ok-build_run.ensures.built c.in_ok-build_groups.ensures.children c.in_ok-build_groups.ensures.pairs
    (omega (arith, size, c.in_ok-build_groups.ensures.more)) c.as_key-key.ensures is)
    c.new_node.ensures

pub build_open-returns-clause-left : goal.build_open-returns-clause-left
build_open-returns-clause-left g t c =
    let within = (group-within (λ s. s.common) c.args.common c.group_len.result c.args.run.now c.group_len.ensures).1 in
    on-any c.new_node.result (grind (
      arith,
      within,
      c.in_ok-build_run.ensures.left,
      c.split_at.ensures.front_len,
      c.split_at.ensures.back_len,
      c.in_ok-build_groups.ensures.left,
      drop-further c.group_len.result (length c.args.run.now) (into_iter_items c.args.values.now),
    ))
