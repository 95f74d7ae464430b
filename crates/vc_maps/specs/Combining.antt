-- Maps that take in all of another map: what the values at a key become.
use Rattle.std.specs.Prelude.{◌≡◌, List, Option, Some, None, IsSomeAnd}
use Rattle.std.specs.declared.cmp.Ordering.{Ordering}
use Rattle.vc_joins.specs.declared.question.OuterJoinArg.{OuterJoinArg}
use Rattle.vc_joins.specs.declared.question.OuterJoinArg.TheVariants.{Left, Right, Both}
use Rattle.vc_joins.specs.declared.question.JoinKind.TheVariants.{Outer}
use Rattle.vc_joins.specs.Entries.{value_at}
use Rattle.vc_joins.specs.Join.{IsAsked}
use Rattle.vc_joins.specs.Question.{left_spelling}

module _ {K V : Type 0} where
  -- the closure may be called where both maps have the key
  abbrev pub CanCombine : (V → V → Type 0) → OuterJoinArg K V V → Type 0
  CanCombine can (Left k v) = Unit {0}
  CanCombine can (Right k w) = Unit {0}
  CanCombine can (Both k v w) = can v w

  -- a value of only one map stays, and two values become what the closure gives
  abbrev pub Combines : (V → V → V → Type 0) → OuterJoinArg K V V → Option V → Type 0
  Combines gives (Left k v) r = r ≡ Some v
  Combines gives (Right k w) r = r ≡ Some w
  Combines gives (Both k v w) r = IsSomeAnd r (gives v w)

-- a value of only one side, or the result of g on two
abbrev pub combined : {V : Type 0} → (V → V → V) → Option V → Option V → Option V
combined g (Some v) (Some w) = Some (g v w)
combined g (Some v) None = Some v
combined g None w = w

-- where the closure gives the one answer g v w to the values v and w of each key of both maps, zs
-- binds each key to the result of g on its values
abbrev pub IsCombinedBy : {K V : Type 0} → (K → K → Ordering) → List (K × V) → List (K × V) → (V → V → V → Type 0) → (V → V → V) → List (K × V) → Type 0
IsCombinedBy {K} {V} cmp xs ys gives g zs =
    ((k : K) (v w x : V) → IsAsked cmp Outer left_spelling xs ys (Both k v w) → gives v w x → x ≡ g v w)
    → (k : K) → value_at cmp zs k ≡ combined g (value_at cmp xs k) (value_at cmp ys k)
