use Rattle.std.proofs.Common.{◌<◌, ap, refl, length, Ok, arith}
use Rattle.std.proofs.lemmas.List.{drop_more}
use Rattle.vc_merge.proofs.LesserTaken.{within-left}
use Rattle.vc_joins.specs.Question.{shown_key}
use Rattle.vc_maps.proofs.Joined.{asked-once}
use Rattle.vc_maps.specs.FreshViews.{left_pairs, right_pairs}
use Rattle.vc_maps.proofs.fresh.FreshStateJoinState.ask_both.Goals as goal

pub returns-clause-gives : goal.returns-clause-gives
returns-clause-gives g c =
    let s = c.args.self.now in
    let some : (0 < length (left_pairs s)) × (0 < length (right_pairs s)) = grind (arith, c.requires.takes) in
    let built = ap (λ r. r.now) c.pass.ensures.same_reference in
    rw (
      drop_more s.a.now s.left c.index-self-self.result (within-left s.a.now s.left some.0),
      drop_more s.b.now s.right c.index-self-self-2.result (within-left s.b.now s.right some.1),
      built,
    ) (
      refl,
      ap (λ r. r.ghost_name) c.pass.ensures.same_reference,
      asked-once (λ a r. g.Q.Question.may c.args.question.now a (Ok r)) (λ a. g.K.Clone.is_clone (shown_key a)) (λ a. a) _
          c.in_ok-answer.answer _ _ c.in_ok-answer.ensures c.in_ok-append_answer.ensures,
    )
