use Rattle.std.proofs.Common.{refl, sym, ap, ◌∙◌, get_or, Some}
use Rattle.vc_joins.specs.declared.question.OuterJoinArg.TheVariants.{Both}
use Rattle.vc_joins.specs.Join.{MovedKey}
use Rattle.vc_merge.specs.PartsViews.{built_items, left_items, right_items, list_name}
use Rattle.vc_maps.specs.Combining.{Combines}
use Rattle.vc_maps.proofs.Combined.{adds-before}
use Rattle.vc_maps.proofs.Joined.{asked-once, at-heads}
use Rattle.vc_maps.proofs.Kept.{appends-in}
use Rattle.vc_maps.proofs.combine.PartsStateTuple2JoinStateAskShared.ask_both.Goals as goal

pub returns-clause-gives : goal.returns-clause-gives
returns-clause-gives g c =
    let s = c.args.self.now in let p = c.replace_left-key.result in let q = c.replace_right-other.result in
    let righted = c.replace_right-other.ensures.others in let lefted = c.replace_left-key.ensures.others in
    let given = Combines (λ v w x. g.F.Fn.post c.args.question.now.combine.now (v, (w, tt)) x) in (
      c.skip_b.ensures.gives.0,
      at-heads _ _ (left_items s) (right_items s) p q c.requires.takes
          (sym (ap (λ l. get_or l 0 p) (sym righted.left ∙ c.replace_left-key.ensures.first)))
          (sym (ap (λ l. get_or l 0 q) c.replace_right-other.ensures.first))
          (adds-before built_items list_name _ _ s c.keep_left.new.parts c.skip_b.new.self _
          (appends-in refl (lefted.built ∙ righted.built) refl
          (asked-once given MovedKey (λ a. a) (Both p.0 p.1 q.1) (Some c.combine-answer.result) _ _ c.combine-answer.ensures
          (p.0, refl, c.keep_left.ensures.built)))
          (c.keep_left.ensures.name ∙ lefted.name ∙ righted.name) c.skip_b.ensures.gives.1),
    )
