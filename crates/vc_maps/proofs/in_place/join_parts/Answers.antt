use Rattle.std.proofs.Common.{ap, ◌∙◌, arith}
use Rattle.vc_joins.specs.Join.{OldKey}
use Rattle.vc_maps.specs.KeptViews.{built_pairs, list_name}
use Rattle.vc_maps.proofs.Asked.{both-ascend, can-ask}
use Rattle.vc_maps.proofs.Asking.{asked-kind}
use Rattle.vc_maps.proofs.Joined.{always-join}
use Rattle.vc_maps.proofs.Kept.{old-equal, front-part}
use Rattle.vc_maps.proofs.in_place.join_parts.Goals as goal

pub merge-never_refused-requires-clause-ascend : goal.merge-never_refused-requires-clause-ascend
merge-never_refused-requires-clause-ascend g c =
    let made = c.new-state.ensures in let front = made.left ∙ front-part c.args.list.now c.args.end in
    rw (front, made.right) (both-ascend g.K.Ord.cmp _ _ c.requires.this_ascends c.requires.that_ascends)

pub merge-never_refused-requires-clause-ready : goal.merge-never_refused-requires-clause-ready
merge-never_refused-requires-clause-ready g c =
    let kind = c.args.op.now.kind in let made = c.new-state.ensures in let front =
    made.left ∙ front-part c.args.list.now c.args.end in
    rw (front, made.right, made.keys) (
      grind (arith, c.requires.kind, c.requires.clones),
      both-ascend g.K.Ord.cmp _ _ c.requires.this_ascends c.requires.that_ascends,
      can-ask g.K.Ord.cmp g.met.K.Ord.total kind _ _ _ (λ a h.
          let asks = asked-kind g.K.Ord.cmp kind a h in (grind (arith, c.requires.kind, asks), c.requires.takes a h asks)),
    )

pub returns-clause-joins : goal.returns-clause-joins
returns-clause-joins g c =
    let kind = c.args.op.now.kind in let made = c.new-state.ensures in let front =
    made.left ∙ front-part c.args.list.now c.args.end in
    always-join (g.Q.Turn.may c.args.op.now.question.now) (OldKey g.K.Clone.is_clone) kind built_pairs list_name _
    g.met.K.Ord.total (old-equal g.K.Ord.cmp g.met.K.Ord.total g.K.Clone.is_clone kind (λ i. (c.requires.clones i).0))
    (record { from_a = λ s t n r h. h; from_b = λ s t n r h. h; collision = λ s t r h. h })
    c.new-state.result c.merge-never_refused.new.state _ _ _ front made.right made.built
    (λ e. let n = ap (λ l. l.ghost_name) made.same_reference in grind arith)
    c.merge-never_refused.result c.merge-never_refused.ensures.merged
