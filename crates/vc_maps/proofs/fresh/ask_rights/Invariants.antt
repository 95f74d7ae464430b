use Rattle.std.proofs.Common.{Ok, Some, take}
use Rattle.vc_merge.specs.Gathering.{Appends}
use Rattle.vc_joins.specs.declared.question.OuterJoinArg.TheVariants.{Right}
use Rattle.vc_joins.specs.Events.{AnswerAdds}
use Rattle.vc_joins.specs.Question.{shown_key}
use Rattle.vc_maps.proofs.fresh.ask_rights.Given as goal

abbrev pub invariant-pairs : goal.invariant-pairs
invariant-pairs g l = Appends (λ p. AnswerAdds (λ a r. g.Q.Question.may l.question a (Ok r))
    (λ a. g.K.Clone.is_clone (shown_key a)) (Some (Right p.0 p.1))) (take l.pair-index l.pairs)
    (g.S.PairList.pairs l.initial.built) (g.S.PairList.pairs l.built)
