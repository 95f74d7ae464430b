use Rattle.std.proofs.Common.{◌≡◌, Some, take, drop}
use Rattle.vc_merge.specs.Gathering.{Appends}
use Rattle.vc_merge.specs.PartsViews.{built_items, left_items, right_items, list_name}
use Rattle.vc_joins.specs.declared.question.OuterJoinArg.TheVariants.{Left}
use Rattle.vc_joins.specs.Events.{AnswerAdds}
use Rattle.vc_joins.specs.Join.{OldKey}
use Rattle.vc_maps.proofs.in_place.lefts_turned.Given as goal

abbrev pub invariant-pairs : goal.invariant-pairs
invariant-pairs g l = record {
  name : list_name l.parts ≡ list_name l.initial.parts;
  left : left_items l.parts ≡ drop l.at (left_items l.initial.parts);
  right : right_items l.parts ≡ right_items l.initial.parts;
  built : Appends (λ p. AnswerAdds (g.Q.Turn.may l.fn.question) (OldKey g.K.Clone.is_clone) (Some (Left p.0 p.1)))
      (take l.at (left_items l.initial.parts)) (built_items l.initial.parts) (built_items l.parts);
}
