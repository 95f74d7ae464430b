-- What stands below two fronts is made by the shape in which the prefixes part; each call goes to trees that stand below.
use Rattle.std.proofs.Common.{◌≡◌, [], Some, None, rules, arith, refl}
use Rattle.std.proofs.lemmas.Option.{slice_get_within}
use Rattle.std.specs.declared.cmp.Ordering.TheVariants.{Less, Greater}
use Rattle.vc_tree_model.specs.Look.{values}
use Rattle.vc_tree_model.specs.Tree.{shortened}
use Rattle.vc_tree_facing.proofs.Ending.{front-asked}
use Rattle.vc_tree_facing.proofs.Leaving.{inner-list}
use Rattle.vc_tree_facing.proofs.Next.{asked, done, meets, left-fewer, right-fewer}
use Rattle.vc_tree_combines.proofs.Inside.{next-agree, next-left_within, next-right_within}
use Rattle.vc_tree_combines.proofs.Runs.{on-ok}
use Rattle.vc_tree_combines.proofs.Shapes.{go-within, apart-side, apart-below, inside-below, within-below, both-below, below-made}
use Rattle.vc_tree_combines.proofs.Stopped.{pair-next, pair-end, owed-begun, owed-spent, owed-merged, owed-pair}
use Rattle.vc_tree_combines.proofs.engine.+combining.Goals as goal

-- ---- one node

pub combine_onto-end_onto-requires-clause-asks : goal.combine_onto-end_onto-requires-clause-asks
combine_onto-end_onto-requires-clause-asks g t c =
    let m = c.in_ok-front.ensures.made in
    front-asked g.met.K.Ord.total (values g.K.Ord.cmp) (shortened c.args.i (g.A.RadixNode.tree c.args.a.now))
    (shortened c.args.j (g.B.RadixNode.tree c.args.b.now)) _ m.agree.same (g.O.Combine.asks c.args.op.now) c.requires.asks []

pub combine_onto-returns-clause-added : goal.combine_onto-returns-clause-added
combine_onto-returns-clause-added g t c =
    on-ok c.end_onto.result c.end_onto.ensures
    (λ h. record {
      one = h.0;
      made = below-made g.met.K.Ord.total (g.O.Combine.says c.args.op.now) (g.met.O.Combine.says_none c.args.op.now)
          c.in_ok-front.ensures.made h.1.value h.1.said h.1.child;
      is = h.2;
    })

-- ---- by the shape

pub combine_below-make_lower-requires-clause-left : goal.combine_below-make_lower-requires-clause-left
combine_below-make_lower-requires-clause-left g t c = search (rules, inner-list, go-within, slice_get_within)

pub combine_below-make_lower-requires-clause-right : goal.combine_below-make_lower-requires-clause-right
combine_below-make_lower-requires-clause-right g t c = search (rules, inner-list, go-within, slice_get_within)

pub combine_below-make_lower-requires-clause-first : goal.combine_below-make_lower-requires-clause-first
combine_below-make_lower-requires-clause-first g t c = search (rules, g.met.K.Ord.total, apart-side)

pub combine_below-make_lower-requires-clause-asks : goal.combine_below-make_lower-requires-clause-asks
combine_below-make_lower-requires-clause-asks g t c =
    (apart-below g.met.K.Ord.total g.A.RadixNode.tree g.B.RadixNode.tree c.args.a.now c.args.b.now c.args.i c.args.j
    c.prefix.ensures.value c.prefix-2.ensures.value _ c.prefix.ensures.canonical c.prefix-2.ensures.canonical
    (g.O.Combine.says c.args.op.now) (g.O.Combine.asks c.args.op.now) c.requires.asks Less refl
    c.in-Lower.ensures.is).asked

pub combine_below-returns-in_ok-kids-in-Lower-clause-made : goal.combine_below-returns-in_ok-kids-in-Lower-clause-made
combine_below-returns-in_ok-kids-in-Lower-clause-made g t c =
    (apart-below g.met.K.Ord.total g.A.RadixNode.tree g.B.RadixNode.tree c.args.a.now c.args.b.now c.args.i c.args.j
    c.prefix.ensures.value c.prefix-2.ensures.value _ c.prefix.ensures.canonical c.prefix-2.ensures.canonical
    (g.O.Combine.says c.args.op.now) (g.O.Combine.asks c.args.op.now) c.requires.asks Less refl
    c.in-Lower.ensures.is).made _ c.in_ok-kids-in-Lower.ensures

pub combine_below-make_higher-requires-clause-left : goal.combine_below-make_higher-requires-clause-left
combine_below-make_higher-requires-clause-left g t c = search (rules, inner-list, go-within, slice_get_within)

pub combine_below-make_higher-requires-clause-right : goal.combine_below-make_higher-requires-clause-right
combine_below-make_higher-requires-clause-right g t c = search (rules, inner-list, go-within, slice_get_within)

pub combine_below-make_higher-requires-clause-first : goal.combine_below-make_higher-requires-clause-first
combine_below-make_higher-requires-clause-first g t c = search (rules, g.met.K.Ord.total, apart-side)

pub combine_below-make_higher-requires-clause-asks : goal.combine_below-make_higher-requires-clause-asks
combine_below-make_higher-requires-clause-asks g t c =
    (apart-below g.met.K.Ord.total g.A.RadixNode.tree g.B.RadixNode.tree c.args.a.now c.args.b.now c.args.i c.args.j
    c.prefix.ensures.value c.prefix-2.ensures.value _ c.prefix.ensures.canonical c.prefix-2.ensures.canonical
    (g.O.Combine.says c.args.op.now) (g.O.Combine.asks c.args.op.now) c.requires.asks Greater refl
    c.in-Higher.ensures.is).asked

pub combine_below-returns-in_ok-kids-in-Higher-clause-made : goal.combine_below-returns-in_ok-kids-in-Higher-clause-made
combine_below-returns-in_ok-kids-in-Higher-clause-made g t c =
    (apart-below g.met.K.Ord.total g.A.RadixNode.tree g.B.RadixNode.tree c.args.a.now c.args.b.now c.args.i c.args.j
    c.prefix.ensures.value c.prefix-2.ensures.value _ c.prefix.ensures.canonical c.prefix-2.ensures.canonical
    (g.O.Combine.says c.args.op.now) (g.O.Combine.asks c.args.op.now) c.requires.asks Greater refl
    c.in-Higher.ensures.is).made _ c.in_ok-kids-in-Higher.ensures

pub combine_below-combine_inside-requires : goal.combine_below-combine_inside-requires
combine_below-combine_inside-requires g t c κs within =
    let f = inside-below g.met.K.Ord.total g.A.RadixNode.tree g.B.RadixNode.tree c.args.a.now c.args.b.now c.args.i c.args.j
    c.prefix.ensures.value c.prefix-2.ensures.value _ c.prefix.ensures.canonical c.prefix-2.ensures.canonical
    (g.O.Combine.says c.args.op.now) (g.O.Combine.asks c.args.op.now) c.requires.asks
    c.in-Inside.ensures.is _ c.children-others.ensures in
    let place = go-within _ _ c.args.i _ c.prefix.ensures.value c.in-Inside.ensures.is.2 in
    search rules

pub combine_below-returns-in_ok-kids-in-Inside-clause-made : goal.combine_below-returns-in_ok-kids-in-Inside-clause-made
combine_below-returns-in_ok-kids-in-Inside-clause-made g t c =
    (inside-below g.met.K.Ord.total g.A.RadixNode.tree g.B.RadixNode.tree c.args.a.now c.args.b.now c.args.i c.args.j
    c.prefix.ensures.value c.prefix-2.ensures.value _ c.prefix.ensures.canonical c.prefix-2.ensures.canonical
    (g.O.Combine.says c.args.op.now) (g.O.Combine.asks c.args.op.now) c.requires.asks
    c.in-Inside.ensures.is _ c.children-others.ensures).made
    _ c.in_ok-kids-in-Inside.ensures.made

pub combine_below-combine_within-requires : goal.combine_below-combine_within-requires
combine_below-combine_within-requires g t c κs within =
    let f = within-below g.met.K.Ord.total g.A.RadixNode.tree g.B.RadixNode.tree c.args.a.now c.args.b.now c.args.i c.args.j
    c.prefix.ensures.value c.prefix-2.ensures.value _ c.prefix.ensures.canonical c.prefix-2.ensures.canonical
    (g.O.Combine.says c.args.op.now) (g.O.Combine.asks c.args.op.now) c.requires.asks
    c.in-Behind.ensures.is refl c.if-front-q.true _ c.children-lefts.ensures in
    let place = go-within _ _ c.args.j _ c.prefix-2.ensures.value c.if-front-q.true in
    search rules

pub combine_below-returns-then-front-q-clause-made : goal.combine_below-returns-then-front-q-clause-made
combine_below-returns-then-front-q-clause-made g t c =
    (within-below g.met.K.Ord.total g.A.RadixNode.tree g.B.RadixNode.tree c.args.a.now c.args.b.now c.args.i c.args.j
    c.prefix.ensures.value c.prefix-2.ensures.value _ c.prefix.ensures.canonical c.prefix-2.ensures.canonical
    (g.O.Combine.says c.args.op.now) (g.O.Combine.asks c.args.op.now) c.requires.asks
    c.in-Behind.ensures.is refl c.if-front-q.true _ c.children-lefts.ensures).made
    _ c.in_ok-kids-in-Behind.ensures.made

pub combine_below-combine_kids-requires : goal.combine_below-combine_kids-requires
combine_below-combine_kids-requires g t c κs within =
    let f = both-below g.met.K.Ord.total g.A.RadixNode.tree g.B.RadixNode.tree c.args.a.now c.args.b.now c.args.i c.args.j
    c.prefix.ensures.value c.prefix-2.ensures.value _ c.prefix.ensures.canonical c.prefix-2.ensures.canonical
    (g.O.Combine.says c.args.op.now) (g.O.Combine.asks c.args.op.now) c.requires.asks
    c.in-Behind.ensures.is refl c.if-front-q.false _ c.children-lefts.ensures _ c.children-rights.ensures in
    search rules

pub combine_below-returns-in_ok-kids-in-Behind-2-clause-made : goal.combine_below-returns-in_ok-kids-in-Behind-2-clause-made
combine_below-returns-in_ok-kids-in-Behind-2-clause-made g t c =
    (both-below g.met.K.Ord.total g.A.RadixNode.tree g.B.RadixNode.tree c.args.a.now c.args.b.now c.args.i c.args.j
    c.prefix.ensures.value c.prefix-2.ensures.value _ c.prefix.ensures.canonical c.prefix-2.ensures.canonical
    (g.O.Combine.says c.args.op.now) (g.O.Combine.asks c.args.op.now) c.requires.asks
    c.in-Behind.ensures.is refl c.if-front-q.false _ c.children-lefts.ensures _ c.children-rights.ensures).made
    _ c.in_ok-kids-in-Behind-2.ensures.made

pub combine_inside-combine_one-requires : goal.combine_inside-combine_one-requires
combine_inside-combine_one-requires g t c κs within =
    let n = c.in_ok-made.ensures.next in
    search (rules, asked n, next-agree n, next-left_within n, next-right_within n)

pub combine_inside-end_inside-requires-clause-doing : goal.combine_inside-end_inside-requires-clause-doing
combine_inside-end_inside-requires-clause-doing g t c =
    let added = c.in_ok-combine_one.ensures.added in
    done c.in_ok-made.ensures.next added.is added.made

pub combine_within-combine_one-requires : goal.combine_within-combine_one-requires
combine_within-combine_one-requires g t c κs within =
    let n = c.in_ok-made.ensures.next in
    search (rules, asked n, next-agree n, next-left_within n, next-right_within n)

pub combine_within-end_within-requires-clause-doing : goal.combine_within-end_within-requires-clause-doing
combine_within-end_within-requires-clause-doing g t c =
    let added = c.in_ok-combine_one.ensures.added in
    done c.in_ok-made.ensures.next added.is added.made

-- ---- the next trees

pub combine_one-combine_onto-requires : goal.combine_one-combine_onto-requires
combine_one-combine_onto-requires g t c κs within =
    let ea : c.args.a ≡ Some c.in-Some-Some.x = search rules in
    let eb : c.args.b ≡ Some c.in-Some-Some.y = search rules in
    let may = rw (ea, eb) at c.requires.asks in
    search rules

pub combine_one-add_left-requires-clause-asks : goal.combine_one-add_left-requires-clause-asks
combine_one-add_left-requires-clause-asks g t c =
    let ea : c.args.a ≡ Some c.in-Some-None.x = search rules in
    let eb : c.args.b ≡ None = search rules in
    rw (ea, eb) at c.requires.asks

pub combine_one-add_right-requires-clause-asks : goal.combine_one-add_right-requires-clause-asks
combine_one-add_right-requires-clause-asks g t c =
    let ea : c.args.a ≡ None = search rules in
    let eb : c.args.b ≡ Some c.in-None-Some.y = search rules in
    rw (ea, eb) at c.requires.asks

-- ---- the children

pub combine_kids-pairs-init : goal.combine_kids-pairs-init
combine_kids-pairs-init g t c =
    let one = c.in_ok-merge_to_pair.ensures in
    let h = owed-merged g.K.Ord.cmp g.A.RadixNode.tree g.B.RadixNode.tree _ _ _ _ _ _ _ _
    (owed-begun g.K.Ord.cmp g.A.RadixNode.tree g.B.RadixNode.tree _ _ _ _ _ c.plan_of-plan.ensures.planned)
    one.counted one.left one.right one.pair in
    record { doing = one.doing; pair = h.0; spent = h.1 }

pub combine_kids-merge_to_pair-requires-in-Some-clause-doing : goal.combine_kids-merge_to_pair-requires-in-Some-clause-doing
combine_kids-merge_to_pair-requires-in-Some-clause-doing g t c =
    let e = c.in-Some.ensures.pair in
    let added = rw c.take_pair.ensures.made at c.in_ok-combine_onto.ensures.added in
    done (pair-next c.pairs.invariant.doing _ c.pairs.invariant.pair e.0 e.1) added.is added.made

pub combine_kids-pairs-preserved : goal.combine_kids-pairs-preserved
combine_kids-pairs-preserved g t c =
    let e = c.in-Some.ensures.pair in
    let one = c.in_ok-merge_to_pair-2.ensures in
    let w = owed-pair g.K.Ord.cmp g.A.RadixNode.tree g.B.RadixNode.tree _ _ _ _ _ _ _ _ _ _ c.pairs.invariant.pair e.0 e.1
    c.combine_onto.ensures.counted in
    let h = owed-merged g.K.Ord.cmp g.A.RadixNode.tree g.B.RadixNode.tree _ _ _ _ _ _ _ _ w
    one.counted one.left one.right one.pair in
    record { doing = one.doing; pair = h.0; spent = h.1 }

pub combine_kids-returns-clause-made : goal.combine_kids-returns-clause-made
combine_kids-returns-clause-made g t c =
    rw c.take_pair.ensures.made (pair-end c.pairs.invariant.doing _ c.pairs.invariant.pair c.in_default.ensures.pair
    (g.met.O.Combine.says_none c.args.op.now))

pub combine_kids-returns-in_err-merge_to_pair-clause-counted : goal.combine_kids-returns-in_err-merge_to_pair-clause-counted
combine_kids-returns-in_err-merge_to_pair-clause-counted g t c =
    owed-spent g.K.Ord.cmp g.A.RadixNode.tree g.B.RadixNode.tree _ _ _ _ _ _
    (owed-begun g.K.Ord.cmp g.A.RadixNode.tree g.B.RadixNode.tree _ _ _ _ _ c.plan_of-plan.ensures.planned)
    c.merge_to_pair.ensures.counted

pub combine_kids-returns-in_err-combine_onto-clause-counted : goal.combine_kids-returns-in_err-combine_onto-clause-counted
combine_kids-returns-in_err-combine_onto-clause-counted g t c =
    let e = c.in-Some.ensures.pair in
    owed-spent g.K.Ord.cmp g.A.RadixNode.tree g.B.RadixNode.tree _ _ _ _ _ _
    (owed-pair g.K.Ord.cmp g.A.RadixNode.tree g.B.RadixNode.tree _ _ _ _ _ _ _ _ _ _ c.pairs.invariant.pair e.0 e.1
    c.combine_onto.ensures.counted) (omega arith)

pub combine_kids-returns-in_err-merge_to_pair-2-clause-counted : goal.combine_kids-returns-in_err-merge_to_pair-2-clause-counted
combine_kids-returns-in_err-merge_to_pair-2-clause-counted g t c =
    let e = c.in-Some.ensures.pair in
    owed-spent g.K.Ord.cmp g.A.RadixNode.tree g.B.RadixNode.tree _ _ _ _ _ _
    (owed-pair g.K.Ord.cmp g.A.RadixNode.tree g.B.RadixNode.tree _ _ _ _ _ _ _ _ _ _ c.pairs.invariant.pair e.0 e.1
    c.combine_onto.ensures.counted) c.merge_to_pair-in-Some.ensures.counted

pub combine_kids-combine_onto-requires : goal.combine_kids-combine_onto-requires
combine_kids-combine_onto-requires g t c κs within =
    let e = c.in-Some.ensures.pair in
    let n = pair-next c.pairs.invariant.doing _ c.pairs.invariant.pair e.0 e.1 in
    search (rules, meets n refl, left-fewer n, right-fewer n)
