-- The questions of a join of two maps: each is one that the kind of join asks, and may be asked where its parts may.
use Rattle.std.proofs.Common.{◌≡◌, true, List, Option, Result, IsOk, OnOk, OnErr, arith}
use Rattle.std.specs.declared.cmp.Ordering.{Ordering}
use Rattle.vc_joins.specs.declared.question.OuterJoinArg.{OuterJoinArg}
use Rattle.vc_joins.specs.declared.question.JoinKind.{JoinKind}
use Rattle.vc_joins.specs.Entries.{AscendsByKey}
use Rattle.vc_joins.specs.Join.{IsAsked, IsJoin, IsJoinBy}
use Rattle.vc_joins.specs.Question.{asks, left_spelling}
use Rattle.vc_joins.proofs.Functions.{joins-of_functions}

module _ {K V W : Type 0} (cmp : K → K → Ordering) (kind : JoinKind) where
  -- a question that is asked is one that the kind asks
  pub asked-kind : {xs : List (K × V)} {ys : List (K × W)} (a : OuterJoinArg K V W)
      → IsAsked cmp kind left_spelling xs ys a → asks kind a ≡ true
  asked-kind a h = grind (arith, h.asks)

  -- a join is that by each function that answers as may be answered
  pub functions-join : {X : Type 0} {May : OuterJoinArg K V W → Option X → Type 0} {Keeps : OuterJoinArg K V W → K → Type 0}
      {xs : List (K × V)} {ys : List (K × W)} {zs : List (K × X)} → IsJoin cmp kind left_spelling xs ys May Keeps zs
      → (h : OuterJoinArg K V W → Option X) → IsJoinBy cmp kind left_spelling xs ys May h zs
  functions-join {X} {May} {Keeps} {xs} {ys} {zs} = joins-of_functions cmp May Keeps kind left_spelling xs ys zs

-- what holds where a call is not refused, if it never is
pub at-ok : {X E : Type 0} (result : Result X E) {P : Type 0} → IsOk result → OnOk result P → P
at-ok result is p = grind arith

-- a list of pairs that became a join, or was left as it was, ascends
pub join-ascends : {E K V W : Type 0} (cmp : K → K → Ordering) (kind : JoinKind) (May : OuterJoinArg K V W → Option V → Type 0)
    (Keeps : OuterJoinArg K V W → K → Type 0) (result : Result (Unit {0}) E) (xs : List (K × V)) (ys : List (K × W))
    (zs : List (K × V))
    → OnOk result (IsJoin cmp kind left_spelling xs ys May Keeps zs) → OnErr result (zs ≡ xs) → AscendsByKey cmp xs
    → AscendsByKey cmp zs
join-ascends cmp kind May Keeps result xs ys zs j e h = grind arith
