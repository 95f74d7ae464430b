use Rattle.std.proofs.Common.{◌≡◌, Some, take, drop}
use Rattle.vc_merge.specs.Gathering.{Appends}
use Rattle.vc_merge.specs.PartsViews.{built_items, left_items, right_items, list_name}
use Rattle.vc_joins.specs.declared.question.OuterJoinArg.TheVariants.{Right}
use Rattle.vc_joins.specs.Events.{AnswerAdds}
use Rattle.vc_joins.specs.Join.{OldKey}
use Rattle.vc_maps.proofs.in_place.rights_turned.Given as goal

abbrev pub invariant-pairs : goal.invariant-pairs
invariant-pairs g l = record {
  name : list_name l.parts ≡ list_name l.initial.parts;
  left : left_items l.parts ≡ left_items l.initial.parts;
  right : right_items l.parts ≡ drop l.pair-index (right_items l.initial.parts);
  built : Appends (λ p. AnswerAdds (g.Q.Turn.may l.fn.question) (OldKey g.K.Clone.is_clone) (Some (Right p.0 p.1)))
      (take l.pair-index l.fn.pairs) (built_items l.initial.parts) (built_items l.parts);
}
