-- What a combination of total maps asks at a key, and what an answer places there. No public clause cites these words.
use Rattle.std.specs.Prelude.{Bool, Option, Result, Ok, Err}
use Rattle.std.specs.declared.alloc.AllocError.{AllocError}
use Rattle.vc_joins.specs.declared.question.OuterJoinArg.{OuterJoinArg}
use Rattle.vc_joins.specs.declared.question.OuterJoinArg.TheVariants.{Left, Right, Both}
use Rattle.vc_total_maps.specs.CombinedTotals.{Stands}

module _ {K V W : Type 0} where
  -- the value of the left map at the key of a question, and of the right map
  abbrev pub left_value : V → OuterJoinArg K V W → V
  left_value default (Left k v) = v
  left_value default (Right k w) = default
  left_value default (Both k v w) = v

  abbrev pub right_value : W → OuterJoinArg K V W → W
  right_value default (Left k v) = default
  right_value default (Right k w) = w
  right_value default (Both k v w) = w

-- a possible answer is placed at a key, or left out because it equals the default; a refusal places
-- nothing
abbrev pub MayPlace : {X : Type 0} → (X → X → Bool) → (X → Type 0) → X → Result (Option X) AllocError → Type 0
MayPlace {X} eq May default (Ok placed) = (v : X) × May v × Stands eq default v placed
MayPlace eq May default (Err e) = Unit {0}
