-- A join by the script of its two maps: an answer to the question of each event. The law `joins_of_events` cites these words, and no other public clause.
use Rattle.std.specs.Prelude.{◌≡◌, List, Option, ◌⊎◌}
use Rattle.std.proofs.Common.{inl, inr}
use Rattle.std.specs.Cmp.{IsTotalOrder}
use Rattle.std.specs.Option.{option_to_list}
use Rattle.std.specs.declared.cmp.Ordering.{Ordering}
use Rattle.std.proofs.lemmas.Cmp.{on_total}
use Rattle.vc_merge.specs.Script.{Event, left_alone, right_alone, collision, place}
use Rattle.vc_joins.specs.declared.question.OuterJoinArg.{OuterJoinArg}
use Rattle.vc_joins.specs.declared.question.OuterJoinArg.TheVariants.{Left, Right, Both}
use Rattle.vc_joins.specs.declared.question.JoinKind.{JoinKind}
use Rattle.vc_joins.specs.Question.{if_asked}
use Rattle.vc_joins.specs.Join.{IsAnswered}

module _ {K V W : Type 0} where
  -- the key of a pair of either side
  abbrev pub key_of : (K × V) ⊎ (K × W) → K
  key_of (inl p) = p.0
  key_of (inr q) = q.0

  -- one order on the pairs of both sides: that of their keys
  abbrev pub by_key : (K → K → Ordering) → (K × V) ⊎ (K × W) → (K × V) ⊎ (K × W) → Ordering
  by_key cmp u v = cmp (key_of u) (key_of v)

  pub by_key-total : (cmp : K → K → Ordering) → IsTotalOrder cmp → IsTotalOrder (by_key cmp)
  by_key-total cmp total = on_total (λ u. key_of u) total

  -- the key at which an event is
  abbrev pub event_key : Event (K × V) (K × W) → K
  event_key e = key_of (place e)

  -- the question at an event
  abbrev pub question_of : (K → K → K) → Event (K × V) (K × W) → OuterJoinArg K V W
  question_of spelled (left_alone p) = Left p.0 p.1
  question_of spelled (right_alone q) = Right q.0 q.1
  question_of spelled (collision p q) = Both (spelled p.0 q.0) p.1 q.1

  module _ {X : Type 0} (May : OuterJoinArg K V W → Option X → Type 0) (Keeps : OuterJoinArg K V W → K → Type 0) where
    -- a possible answer to what is asked adds a pair to the join, or nothing
    abbrev pub AnswerAdds : Option (OuterJoinArg K V W) → List (K × X) → Type 0
    AnswerAdds asked added = (found : Option (K × X)) × IsAnswered May Keeps asked found × (added ≡ option_to_list found)

  module _ {X : Type 0} (kind : JoinKind) (spelled : K → K → K) (May : OuterJoinArg K V W → Option X → Type 0) (Keeps : OuterJoinArg K V W → K → Type 0) where
    -- an event adds what answers its question, where the join asks it, and otherwise nothing
    abbrev pub AnswersEvent : Event (K × V) (K × W) → List (K × X) → Type 0
    AnswersEvent e added = AnswerAdds May Keeps (if_asked kind (question_of spelled e)) added
