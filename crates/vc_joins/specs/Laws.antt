-- The laws of the definitions of this crate, as the functions of `laws` carry them.
use Rattle.std.specs.Prelude.{◌≡◌, ◌↔◌, List, [], Option, IsSome, ◌⊎◌}
use Rattle.std.specs.declared.cmp.Ordering.{Ordering}
use Rattle.std.specs.declared.cmp.Ordering.TheVariants.{Equal}
use Rattle.vc_merge.specs.Gathering.{IsBuilt}
use Rattle.vc_joins.specs.declared.question.OuterJoinArg.{OuterJoinArg}
use Rattle.vc_joins.specs.declared.question.JoinKind.{JoinKind}
use Rattle.vc_joins.specs.declared.question.JoinKind.TheVariants.{Outer, Left, Right, Inner}
use Rattle.vc_joins.specs.Entries.{value_at}
use Rattle.vc_joins.specs.Events.{by_key, AnswersEvent}
use Rattle.vc_joins.specs.Join.{asked_at, IsJoin, IsJoinBy}
use Rattle.vc_joins.specs.Question.{shown_key}

module _ (K V W : Type 0) (cmp : K → K → Ordering) where
  -- a join asks at the keys that its kind names
  pub record KindsInWords : Type 0 where
    pub outer : (spelled : K → K → K) (xs : List (K × V)) (ys : List (K × W)) (k : K)
        → IsSome (asked_at cmp Outer spelled xs ys k) ↔ (IsSome (value_at cmp xs k) ⊎ IsSome (value_at cmp ys k))
    pub left : (spelled : K → K → K) (xs : List (K × V)) (ys : List (K × W)) (k : K)
        → IsSome (asked_at cmp Left spelled xs ys k) ↔ IsSome (value_at cmp xs k)
    pub right : (spelled : K → K → K) (xs : List (K × V)) (ys : List (K × W)) (k : K)
        → IsSome (asked_at cmp Right spelled xs ys k) ↔ IsSome (value_at cmp ys k)
    pub inner : (spelled : K → K → K) (xs : List (K × V)) (ys : List (K × W)) (k : K)
        → IsSome (asked_at cmp Inner spelled xs ys k) ↔ (IsSome (value_at cmp xs k) × IsSome (value_at cmp ys k))

  module _ {X : Type 0} (May : OuterJoinArg K V W → Option X → Type 0) (Keeps : OuterJoinArg K V W → K → Type 0) where
    -- a join binds each key to the one answer to what is asked there, where each question that is asked has one
    abbrev pub JoinsOfFunctions : Type 0
    JoinsOfFunctions =
        (kind : JoinKind) (spelled : K → K → K) (xs : List (K × V)) (ys : List (K × W)) (zs : List (K × X)) → IsJoin cmp kind spelled xs ys May Keeps zs
        → (h : OuterJoinArg K V W → Option X) → IsJoinBy cmp kind spelled xs ys May h zs

    -- what is built by answers to the events of two maps is their join, where the key that is shown
    -- and the key that is kept are equal
    abbrev pub JoinsOfEvents : Type 0
    JoinsOfEvents =
        ((a : OuterJoinArg K V W) (k : K) → Keeps a k → cmp (shown_key a) k ≡ Equal)
        → (kind : JoinKind) (spelled : K → K → K) → ((j k : K) → cmp j k ≡ Equal → cmp j (spelled j k) ≡ Equal)
        → (xs : List (K × V)) (ys : List (K × W)) (zs : List (K × X)) → IsBuilt (by_key cmp) (AnswersEvent kind spelled May Keeps) xs ys [] zs
        → IsJoin cmp kind spelled xs ys May Keeps zs
