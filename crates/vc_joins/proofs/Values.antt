-- Joins of closures that look only at values, by the values at each key.
use Rattle.std.proofs.Common.{◌≡◌, List, Option, Result, Ok, ◌∙◌, arith}
use Rattle.std.specs.Option.{option_map, option_and_then}
use Rattle.std.specs.declared.cmp.Ordering.{Ordering}
use denote.Ref.{Bor}
use denote.Param.Members.{Shared}
use Rattle.vc_joins.specs.declared.question.OuterJoinArg.{OuterJoinArg}
use Rattle.vc_joins.specs.declared.question.OuterJoinArg.TheVariants as question
use Rattle.vc_joins.specs.declared.question.JoinKind.{JoinKind}
use Rattle.vc_joins.specs.declared.question.JoinKind.TheVariants.{Outer, Left, Right, Inner}
use Rattle.vc_joins.specs.Answers.{MayAnswer, MayAnswerLeft, MayAnswerRight, MayAnswerInner}
use Rattle.vc_joins.specs.Entries.{entry_at, value_at}
use Rattle.vc_joins.specs.InPlace.{MayTurn, MayTurnLeft, MayTurnRight, MayTurnInner}
use Rattle.vc_joins.specs.Join.{IsJoinBy}
use Rattle.vc_joins.specs.Question.{asked}
use Rattle.vc_joins.specs.Values.{in_both, in_left, in_right, in_either, in_kind, of_values, JoinsValues}
use Rattle.vc_joins.specs.Values.{AnswersBy, AnswersLeftBy, AnswersRightBy, AnswersInnerBy}
use Rattle.vc_joins.specs.Values.{TurnsBy, TurnsLeftBy, TurnsRightBy, TurnsInnerBy}
use Rattle.vc_joins.proofs.Functions.{value-entry}

module _ {K V W X : Type 0} where
  -- what is made of the question at a key is what is made of the values there
  asked-values : (kind : JoinKind) (spelled : K → K → K) (h : Option V → Option W → Option X)
      (p : Option (K × V)) (q : Option (K × W))
      → option_and_then (of_values h) (asked kind spelled p q)
      ≡ in_kind kind h (option_map (λ e. e.1) p) (option_map (λ e. e.1) q)
  asked-values kind spelled h x y = grind arith

module _ {V W X : Type 0} where
  -- the joins of each kind by their own words
  either-kind : (h : Option V → Option W → Option X) (v : Option V) (w : Option W) → in_kind Outer h v w ≡ in_either h v w
  either-kind h v w = grind arith

  -- a function of a value that is there, for one that may be
  abbrev pub first_of : (V → Option W → Option X) → Option V → Option W → Option X
  first_of h v w = option_and_then (λ x. h x w) v

  abbrev pub second_of : (Option V → W → Option X) → Option V → Option W → Option X
  second_of h v w = option_and_then (λ y. h v y) w

  abbrev pub both_of : (V → W → Option X) → Option V → Option W → Option X
  both_of h = first_of (λ x. option_and_then (h x))

  pub left-kind : (h : V → Option W → Option X) (v : Option V) (w : Option W) → in_kind Left (first_of h) v w ≡ in_left h v w
  left-kind h v w = grind arith

  right-kind : (h : Option V → W → Option X) (v : Option V) (w : Option W) → in_kind Right (second_of h) v w ≡ in_right h v w
  right-kind h v w = grind arith

  pub both-kind : (h : V → W → Option X) (v : Option V) (w : Option W) → in_kind Inner (both_of h) v w ≡ in_both h v w
  both-kind h v w = grind arith

module _ {K V W X : Type 0} (cmp : K → K → Ordering) (spelled : K → K → K)
    (xs : List (K × V)) (ys : List (K × W)) (zs : List (K × X)) where
  -- where each answer is what h makes of the values of its question
  pub kind-joins : (kind : JoinKind) (May : OuterJoinArg K V W → Option X → Type 0) (h : Option V → Option W → Option X)
      → ((g : OuterJoinArg K V W → Option X) → IsJoinBy cmp kind spelled xs ys May g zs)
      → ((a : OuterJoinArg K V W) (r : Option X) → May a r → r ≡ of_values h a) → JoinsValues cmp (in_kind kind h) xs ys zs
  kind-joins kind May h j one k =
      grind (
        arith,
        asked-values kind spelled h (entry_at cmp xs k) (entry_at cmp ys k),
        value-entry cmp xs k,
        value-entry cmp ys k,
      )

  module _ {E F : Type 0} (f : F) where
    pub answers-kind : (kind : JoinKind) (g : Shared F (OuterJoinArg (Bor K) (Bor V) (Bor W) × Unit {0}) (Result (Option X) E))
        → ((h : OuterJoinArg K V W → Option X) → IsJoinBy cmp kind spelled xs ys (λ a r. MayAnswer g f a (Ok r)) h zs)
        → (h : Option V → Option W → Option X) → AnswersBy g f h → JoinsValues cmp (in_kind kind h) xs ys zs
    answers-kind kind g j h one = grind (arith, kind-joins kind _ h j)

    pub answers-outer : (g : Shared F (OuterJoinArg (Bor K) (Bor V) (Bor W) × Unit {0}) (Result (Option X) E))
        → ((h : OuterJoinArg K V W → Option X) → IsJoinBy cmp Outer spelled xs ys (λ a r. MayAnswer g f a (Ok r)) h zs)
        → (h : Option V → Option W → Option X) → AnswersBy g f h → JoinsValues cmp (in_either h) xs ys zs
    answers-outer g j h one k = answers-kind Outer g j h one k ∙ either-kind h (value_at cmp xs k) (value_at cmp ys k)

    pub answers-left : (g : Shared F (Bor K × (Bor V × (Option (Bor W) × Unit {0}))) (Result (Option X) E))
        → ((h : OuterJoinArg K V W → Option X) → IsJoinBy cmp Left spelled xs ys (λ a r. MayAnswerLeft g f a (Ok r)) h zs)
        → (h : V → Option W → Option X) → AnswersLeftBy g f h → JoinsValues cmp (in_left h) xs ys zs
    answers-left g j h one k =
        grind (arith, kind-joins Left _ (first_of h) j, left-kind h (value_at cmp xs k) (value_at cmp ys k))

    pub answers-right : (g : Shared F (Bor K × (Option (Bor V) × (Bor W × Unit {0}))) (Result (Option X) E))
        → ((h : OuterJoinArg K V W → Option X) → IsJoinBy cmp Right spelled xs ys (λ a r. MayAnswerRight g f a (Ok r)) h zs)
        → (h : Option V → W → Option X) → AnswersRightBy g f h → JoinsValues cmp (in_right h) xs ys zs
    answers-right g j h one k =
        grind (arith, kind-joins Right _ (second_of h) j, right-kind h (value_at cmp xs k) (value_at cmp ys k))

    pub answers-inner : (g : Shared F (Bor K × (Bor V × (Bor W × Unit {0}))) (Result (Option X) E))
        → ((h : OuterJoinArg K V W → Option X) → IsJoinBy cmp Inner spelled xs ys (λ a r. MayAnswerInner g f a (Ok r)) h zs)
        → (h : V → W → Option X) → AnswersInnerBy g f h → JoinsValues cmp (in_both h) xs ys zs
    answers-inner g j h one k =
        grind (arith, kind-joins Inner _ (both_of h) j, both-kind h (value_at cmp xs k) (value_at cmp ys k))

  module _ {F : Type 0} (f : F) where
    pub turns-kind : (kind : JoinKind) (g : Shared F (OuterJoinArg (Bor K) V (Bor W) × Unit {0}) (Option X))
        → ((h : OuterJoinArg K V W → Option X) → IsJoinBy cmp kind spelled xs ys (λ a r. MayTurn g f a r) h zs)
        → (h : Option V → Option W → Option X) → TurnsBy g f h → JoinsValues cmp (in_kind kind h) xs ys zs
    turns-kind kind g j h one = grind (arith, kind-joins kind _ h j)

    pub turns-outer : (g : Shared F (OuterJoinArg (Bor K) V (Bor W) × Unit {0}) (Option X))
        → ((h : OuterJoinArg K V W → Option X) → IsJoinBy cmp Outer spelled xs ys (λ a r. MayTurn g f a r) h zs)
        → (h : Option V → Option W → Option X) → TurnsBy g f h → JoinsValues cmp (in_either h) xs ys zs
    turns-outer g j h one k = turns-kind Outer g j h one k ∙ either-kind h (value_at cmp xs k) (value_at cmp ys k)

    pub turns-left : (g : Shared F (Bor K × (V × (Option (Bor W) × Unit {0}))) (Option X))
        → ((h : OuterJoinArg K V W → Option X) → IsJoinBy cmp Left spelled xs ys (λ a r. MayTurnLeft g f a r) h zs)
        → (h : V → Option W → Option X) → TurnsLeftBy g f h → JoinsValues cmp (in_left h) xs ys zs
    turns-left g j h one k =
        grind (arith, kind-joins Left _ (first_of h) j, left-kind h (value_at cmp xs k) (value_at cmp ys k))

    pub turns-right : (g : Shared F (Bor K × (Option V × (Bor W × Unit {0}))) (Option X))
        → ((h : OuterJoinArg K V W → Option X) → IsJoinBy cmp Right spelled xs ys (λ a r. MayTurnRight g f a r) h zs)
        → (h : Option V → W → Option X) → TurnsRightBy g f h → JoinsValues cmp (in_right h) xs ys zs
    turns-right g j h one k =
        grind (arith, kind-joins Right _ (second_of h) j, right-kind h (value_at cmp xs k) (value_at cmp ys k))

    pub turns-inner : (g : Shared F (Bor K × (V × (Bor W × Unit {0}))) (Option X))
        → ((h : OuterJoinArg K V W → Option X) → IsJoinBy cmp Inner spelled xs ys (λ a r. MayTurnInner g f a r) h zs)
        → (h : V → W → Option X) → TurnsInnerBy g f h → JoinsValues cmp (in_both h) xs ys zs
    turns-inner g j h one k =
        grind (arith, kind-joins Inner _ (both_of h) j, both-kind h (value_at cmp xs k) (value_at cmp ys k))
