use Rattle.std.proofs.Common.{Ok}
use Rattle.vc_joins.specs.declared.question.OuterJoinArg.TheVariants.{Right}
use Rattle.vc_joins.specs.Question.{shown_key}
use Rattle.vc_maps.proofs.Joined.{asked-one}
use Rattle.vc_maps.proofs.fresh.ask_rights.Goals as goal

pub pairs-preserved : goal.pairs-preserved
pairs-preserved g c =
    asked-one (λ a r. g.Q.Question.may c.args.question.now a (Ok r)) (λ a. g.K.Clone.is_clone (shown_key a)) (λ p. Right p.0 p.1)
    c.args.pairs.now c.pairs.pair-index c.pair-item.result c.in_ok-answer.answer _ _ _ c.pairs-test.true c.pair-item.is
    c.pairs.invariant c.in_ok-answer.ensures c.in_ok-append_answer.ensures
