use Rattle.std.proofs.Common.{ap, arith}
use Rattle.std.specs.Cmp.{tied_itself}
use Rattle.vc_joins.specs.declared.question.JoinKind.TheVariants.{Outer}
use Rattle.vc_joins.specs.Join.{MovedKey}
use Rattle.vc_merge.specs.PartsViews.{built_items, list_name}
use Rattle.vc_maps.specs.Combining.{Combines}
use Rattle.vc_maps.proofs.Asked.{both-ascend, can-ask}
use Rattle.vc_maps.proofs.Combined.{can-combine}
use Rattle.vc_maps.proofs.Joined.{always-join}
use Rattle.vc_maps.proofs.combine.combine_parts.Goals as goal

pub merge-never_refused-requires-clause-ascend : goal.merge-never_refused-requires-clause-ascend
merge-never_refused-requires-clause-ascend g c =
    let made = c.new-state.ensures in
    rw (made.left, made.right) (both-ascend g.K.Ord.cmp _ _ c.requires.left_ascends c.requires.right_ascends)

pub merge-never_refused-requires-clause-ready : goal.merge-never_refused-requires-clause-ready
merge-never_refused-requires-clause-ready g c =
    let made = c.new-state.ensures in
    rw (made.left, made.right) (
      tt,
      both-ascend g.K.Ord.cmp _ _ c.requires.left_ascends c.requires.right_ascends,
      can-ask g.K.Ord.cmp g.met.K.Ord.total Outer _ _ _
          (λ a h. can-combine _ a (λ k v w e. c.requires.callable k v w (rw e at h))),
    )

pub returns : goal.returns
returns g c =
    let made = c.new-state.ensures in
    let given = Combines (λ v w x. g.F.Fn.post c.args.f.now (v, (w, tt)) x) in
    always-join given MovedKey Outer built_items list_name _ g.met.K.Ord.total
    (λ a k i h. rw h (tied_itself g.met.K.Ord.total _))
    (record { from_a = λ s t n r h. h; from_b = λ s t n r h. h; collision = λ s t r h. h })
    c.new-state.result c.merge-never_refused.new.state _ _ _ made.left made.right made.built
    (λ e. let n = ap (λ l. l.ghost_name) made.same_reference in grind arith)
    c.merge-never_refused.result c.merge-never_refused.ensures.merged
