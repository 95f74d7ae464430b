-- The question of a join at a key, of the pairs that the two maps have there, and which questions each kind of join asks.
use Rattle.std.specs.Prelude.{Bool, true, false, cond, Option, Some, None}
use Rattle.vc_joins.specs.declared.question.OuterJoinArg.{OuterJoinArg}
use Rattle.vc_joins.specs.declared.question.OuterJoinArg.TheVariants.{Left, Right, Both}
use Rattle.vc_joins.specs.declared.question.JoinKind.{JoinKind}
use Rattle.vc_joins.specs.declared.question.JoinKind.TheVariants as kind

-- whether a join asks at the keys of only the left map
abbrev pub asks_left : JoinKind → Bool
asks_left kind.Outer = true
asks_left kind.Left = true
asks_left kind.Right = false
asks_left kind.Inner = false

-- whether a join asks at the keys of only the right map
abbrev pub asks_right : JoinKind → Bool
asks_right kind.Outer = true
asks_right kind.Left = false
asks_right kind.Right = true
asks_right kind.Inner = false

module _ {K V W : Type 0} where
  -- whether a join asks this question: each kind asks at the keys of both maps
  abbrev pub asks : JoinKind → OuterJoinArg K V W → Bool
  asks kind (Left k v) = asks_left kind
  asks kind (Right k w) = asks_right kind
  asks kind (Both k v w) = true

  -- the question, where a join of this kind asks it
  abbrev pub if_asked : JoinKind → OuterJoinArg K V W → Option (OuterJoinArg K V W)
  if_asked kind a = cond (asks kind a) (Some a) None

  -- the key that a question shows
  abbrev pub shown_key : OuterJoinArg K V W → K
  shown_key (Left k v) = k
  shown_key (Right k w) = k
  shown_key (Both k v w) = k

  -- the question at a key, and none where no map has it or the kind does not ask; `spelled` says
  -- which of two equal keys is shown
  abbrev pub asked : JoinKind → (K → K → K) → Option (K × V) → Option (K × W) → Option (OuterJoinArg K V W)
  asked kind spelled (Some p) (Some q) = if_asked kind (Both (spelled p.0 q.0) p.1 q.1)
  asked kind spelled (Some p) None = if_asked kind (Left p.0 p.1)
  asked kind spelled None (Some q) = if_asked kind (Right q.0 q.1)
  asked kind spelled None None = None

-- of a key of both maps, the left one is shown
abbrev pub left_spelling : {K : Type 0} → K → K → K
left_spelling j k = j

-- of a key of both maps, the right one is shown
abbrev pub right_spelling : {K : Type 0} → K → K → K
right_spelling j k = k
