-- Joins by values, for closures that look only at values: what is at a key, by what the two maps
-- have there.
use Rattle.std.specs.Prelude.{◌≡◌, cond, List, Option, Some, None, Result, IfOk}
use Rattle.std.specs.Option.{option_copied}
use Rattle.std.specs.declared.cmp.Ordering.{Ordering}
use denote.Ref.{Bor}
use denote.Param.Members.{Shared}
use Rattle.vc_joins.specs.declared.question.JoinKind.{JoinKind}
use Rattle.vc_joins.specs.declared.question.OuterJoinArg.{OuterJoinArg}
use Rattle.vc_joins.specs.declared.question.OuterJoinArg.TheVariants.{Left, Right, Both}
use Rattle.vc_joins.specs.Answers.{seen}
use Rattle.vc_joins.specs.Entries.{value_at}
use Rattle.vc_joins.specs.InPlace.{handed}
use Rattle.vc_joins.specs.Question.{asks_left, asks_right}

module _ {V W X : Type 0} where
  -- at the keys of both maps the result of h on the two values, and nothing elsewhere
  abbrev pub in_both : (V → W → Option X) → Option V → Option W → Option X
  in_both h (Some v) (Some w) = h v w
  in_both h (Some v) None = None
  in_both h None w = None

  -- at the keys of the left map the result of h on its value and on what the right map has there,
  -- and nothing elsewhere
  abbrev pub in_left : (V → Option W → Option X) → Option V → Option W → Option X
  in_left h (Some v) w = h v w
  in_left h None w = None

  -- at the keys of the right map the result of h on what the left map has there and on its value,
  -- and nothing elsewhere
  abbrev pub in_right : (Option V → W → Option X) → Option V → Option W → Option X
  in_right h v (Some w) = h v w
  in_right h v None = None

  -- at the keys of either map the result of h on what both have there, and nothing elsewhere
  abbrev pub in_either : (Option V → Option W → Option X) → Option V → Option W → Option X
  in_either h (Some v) w = h (Some v) w
  in_either h None (Some w) = h None (Some w)
  in_either h None None = None

  -- the same at the keys at which a join of this kind asks
  abbrev pub in_kind : JoinKind → (Option V → Option W → Option X) → Option V → Option W → Option X
  in_kind kind h (Some v) (Some w) = h (Some v) (Some w)
  in_kind kind h (Some v) None = cond (asks_left kind) (h (Some v) None) None
  in_kind kind h None (Some w) = cond (asks_right kind) (h None (Some w)) None
  in_kind kind h None None = None

  -- the result of h on the values that a question shows
  abbrev pub of_values : {K : Type 0} → (Option V → Option W → Option X) → OuterJoinArg K V W → Option X
  of_values h (Left k v) = h (Some v) None
  of_values h (Right k w) = h None (Some w)
  of_values h (Both k v w) = h (Some v) (Some w)

-- zs has at each key the result of `joined` on the values that xs and ys have there
abbrev pub JoinsValues : {K V W X : Type 0} → (K → K → Ordering) → (Option V → Option W → Option X)
    → List (K × V) → List (K × W) → List (K × X) → Type 0
JoinsValues {K} cmp joined xs ys zs = (k : K) → value_at cmp zs k ≡ joined (value_at cmp xs k) (value_at cmp ys k)

-- ---- closures that answer the result of h on the values, where they answer

module _ {K V W X E F : Type 0} where
  -- the closure of an outer join
  abbrev pub AnswersBy : Shared F (OuterJoinArg (Bor K) (Bor V) (Bor W) × Unit {0}) (Result (Option X) E)
      → F → (Option V → Option W → Option X) → Type 0
  AnswersBy g f h =
      (a : OuterJoinArg (Bor K) (Bor V) (Bor W)) (r : Result (Option X) E)
      → g.post f (a, tt) r → IfOk r (λ x. x ≡ of_values h (seen a))

  -- the closure of a left join
  abbrev pub AnswersLeftBy : Shared F (Bor K × (Bor V × (Option (Bor W) × Unit {0}))) (Result (Option X) E)
      → F → (V → Option W → Option X) → Type 0
  AnswersLeftBy g f h =
      (k : Bor K) (v : Bor V) (w : Option (Bor W)) (r : Result (Option X) E)
      → g.post f (k, (v, (w, tt))) r → IfOk r (λ x. x ≡ h v.now (option_copied w))

  -- the closure of a right join
  abbrev pub AnswersRightBy : Shared F (Bor K × (Option (Bor V) × (Bor W × Unit {0}))) (Result (Option X) E)
      → F → (Option V → W → Option X) → Type 0
  AnswersRightBy g f h =
      (k : Bor K) (v : Option (Bor V)) (w : Bor W) (r : Result (Option X) E)
      → g.post f (k, (v, (w, tt))) r → IfOk r (λ x. x ≡ h (option_copied v) w.now)

  -- the closure of an inner join
  abbrev pub AnswersInnerBy : Shared F (Bor K × (Bor V × (Bor W × Unit {0}))) (Result (Option X) E)
      → F → (V → W → Option X) → Type 0
  AnswersInnerBy g f h =
      (k : Bor K) (v : Bor V) (w : Bor W) (r : Result (Option X) E)
      → g.post f (k, (v, (w, tt))) r → IfOk r (λ x. x ≡ h v.now w.now)

-- ---- closures of joins in place that do so

module _ {K V W X F : Type 0} where
  -- the closure of an outer join in place
  abbrev pub TurnsBy : Shared F (OuterJoinArg (Bor K) V (Bor W) × Unit {0}) (Option X)
      → F → (Option V → Option W → Option X) → Type 0
  TurnsBy g f h = (a : OuterJoinArg (Bor K) V (Bor W)) (r : Option X) → g.post f (a, tt) r → r ≡ of_values h (handed a)

  -- the closure of a left join in place
  abbrev pub TurnsLeftBy : Shared F (Bor K × (V × (Option (Bor W) × Unit {0}))) (Option X)
      → F → (V → Option W → Option X) → Type 0
  TurnsLeftBy g f h =
      (k : Bor K) (v : V) (w : Option (Bor W)) (r : Option X)
      → g.post f (k, (v, (w, tt))) r → r ≡ h v (option_copied w)

  -- the closure of a right join in place
  abbrev pub TurnsRightBy : Shared F (Bor K × (Option V × (Bor W × Unit {0}))) (Option X)
      → F → (Option V → W → Option X) → Type 0
  TurnsRightBy g f h =
      (k : Bor K) (v : Option V) (w : Bor W) (r : Option X)
      → g.post f (k, (v, (w, tt))) r → r ≡ h v w.now

  -- the closure of an inner join in place
  abbrev pub TurnsInnerBy : Shared F (Bor K × (V × (Bor W × Unit {0}))) (Option X) → F → (V → W → Option X) → Type 0
  TurnsInnerBy g f h = (k : Bor K) (v : V) (w : Bor W) (r : Option X) → g.post f (k, (v, (w, tt))) r → r ≡ h v w.now
