use Rattle.std.proofs.Common.{refl, sym, ap, ◌∙◌, get_or, arith}
use Rattle.vc_joins.specs.declared.question.OuterJoinArg.TheVariants.{Both}
use Rattle.vc_joins.specs.Join.{OldKey}
use Rattle.vc_merge.specs.PartsViews.{left_at}
use Rattle.vc_maps.proofs.Joined.{asked-once, at-heads}
use Rattle.vc_maps.proofs.Kept.{appends-in, under-key}
use Rattle.vc_maps.proofs.in_place.pair_turned.Goals as goal

pub returns-clause-built : goal.returns-clause-built
returns-clause-built g c =
    let right = c.args.right.now in let at = c.at-parts.ensures in
    let p = c.replace_left-key.result in let q = get_or right 0 c.index-right-0.result in let a = Both p.0 p.1 q.1 in
    let taken = c.replace_left-key.ensures.others in let kept = c.keep_left.ensures in
    at-heads _ _ (left_at c.args.spans c.args.list.now) right p q c.requires.takes
    (sym (ap (λ l. get_or l 0 p) (sym at.left ∙ c.replace_left-key.ensures.first)))
    (ap (λ q. get_or right 0 q) c.index-right-0.is)
    (appends-in refl (taken.built ∙ at.built)
    (let k = c.spans.ensures in let t = kept.name ∙ taken.name in let n =
    ap (λ l. l.ghost_name) at.same_reference in grind arith)
    (asked-once (λ a r. g.Q.Turn.may c.args.question.now a r) (OldKey g.K.Clone.is_clone) (λ a. a) a c.turn-answer.result _ _
    c.turn-answer.ensures
    (under-key {W = g.row.W.Denot} (OldKey g.K.Clone.is_clone) a p.0 c.turn-answer.result _ _ refl kept.built)))
