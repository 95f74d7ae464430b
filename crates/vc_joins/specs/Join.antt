-- The result of a join of two maps, key by key.
use Rattle.std.specs.Prelude.{◌≡◌, List, Option, Some, None}
use Rattle.std.specs.Option.{option_and_then}
use Rattle.std.specs.declared.cmp.Ordering.{Ordering}
use Rattle.vc_joins.specs.declared.question.OuterJoinArg.{OuterJoinArg}
use Rattle.vc_joins.specs.declared.question.JoinKind.{JoinKind}
use Rattle.vc_joins.specs.Entries.{AscendsByKey, entry_at, value_at}
use Rattle.vc_joins.specs.declared.question.OuterJoinArg.TheVariants.{Left, Right, Both}
use Rattle.vc_joins.specs.Question.{asked, shown_key}

-- `May a r`: the closure may answer r to the question a. `Keeps a k`: the answer to a may be under
-- the key k
module _ {K V W X : Type 0} (May : OuterJoinArg K V W → Option X → Type 0) (Keeps : OuterJoinArg K V W → K → Type 0) where
  -- what is at a key: the answer, or nothing where nothing is asked or the answer is none
  abbrev pub IsAnswered : Option (OuterJoinArg K V W) → Option (K × X) → Type 0
  IsAnswered None found = found ≡ None
  IsAnswered (Some a) None = May a None
  IsAnswered (Some a) (Some p) = May a (Some p.1) × Keeps a p.0

module _ {K V W : Type 0} (cmp : K → K → Ordering) (kind : JoinKind) (spelled : K → K → K) (xs : List (K × V)) (ys : List (K × W)) where
  -- the question that a join of xs and ys asks at the key k
  abbrev pub asked_at : K → Option (OuterJoinArg K V W)
  asked_at k = asked kind spelled (entry_at cmp xs k) (entry_at cmp ys k)

  -- the question is asked at some key
  pub record IsAsked (a : OuterJoinArg K V W) : Type 0 where
    pub key : K
    pub asks : asked_at key ≡ Some a

  module _ {X : Type 0} (May : OuterJoinArg K V W → Option X → Type 0) where
    -- zs is the join of xs and ys: each key has a possible answer to what is asked there
    pub record IsJoin (Keeps : OuterJoinArg K V W → K → Type 0) (zs : List (K × X)) : Type 0 where
      pub ascends : AscendsByKey cmp zs
      pub at : (k : K) → IsAnswered May Keeps (asked_at k) (entry_at cmp zs k)

    -- where each question that is asked has one answer h, zs binds each key to the answer to what is asked there
    abbrev pub IsJoinBy : (OuterJoinArg K V W → Option X) → List (K × X) → Type 0
    IsJoinBy h zs =
        ((a : OuterJoinArg K V W) (r : Option X) → IsAsked a → May a r → r ≡ h a)
        → (k : K) → value_at cmp zs k ≡ option_and_then h (asked_at k)

-- ---- the keys of a join

module _ {K V W : Type 0} where
  -- a key of the result is a clone of the one that the closure saw
  abbrev pub ClonedKey : (K → K → Type 0) → OuterJoinArg K V W → K → Type 0
  ClonedKey is_clone a k = is_clone (shown_key a) k

  -- a key of the left map stays, and one of only the right map is cloned
  abbrev pub OldKey : (K → K → Type 0) → OuterJoinArg K V W → K → Type 0
  OldKey is_clone (Left j v) k = k ≡ j
  OldKey is_clone (Right j w) k = is_clone j k
  OldKey is_clone (Both j v w) k = k ≡ j

  -- a key of the result is the one that the closure saw, itself
  abbrev pub MovedKey : OuterJoinArg K V W → K → Type 0
  MovedKey a k = k ≡ shown_key a
