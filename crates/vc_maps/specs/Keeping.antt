-- Joins in place: clones of keys of the right, and what may be asked.
use Rattle.std.specs.Prelude.{◌≡◌, ℕ, zero, suc, Bool, true, false, List, ◌++◌}
use Rattle.std.specs.List.{AllZip}
use Rattle.vc_joins.specs.declared.question.OuterJoinArg.{OuterJoinArg}
use Rattle.vc_joins.specs.declared.question.JoinKind.TheVariants as kind
use Rattle.vc_joins.specs.Question.{asks}

-- each pair of qs has a clone of the key of the pair of ps at its place
abbrev pub HaveKeys : {K V W : Type 0} → (K → K → Type 0) → List (K × W) → List (K × V) → Type 0
HaveKeys is_clone ps qs = AllZip (λ p q. is_clone p.0 q.0) ps qs

-- whether each pair of the right has clones of its key in the list
abbrev pub has_keys : ℕ → Bool
has_keys zero = false
has_keys (suc n) = true

-- new has the pairs of old, and then one with a clone of the key of each of ps
pub record ClonesKeys {K V W : Type 0} (is_clone : K → K → Type 0) (ps : List (K × W)) (old new : List (K × V)) : Type 0 where
  pub added : List (K × V)
  pub have : HaveKeys is_clone ps added
  pub items : new ≡ old ++ added

-- what may be asked of a state: if keys of the right may be inserted, any question, and otherwise
-- none at a key of only the right
abbrev pub MayAskWith : {K V W : Type 0} → Bool → OuterJoinArg K V W → Type 0
MayAskWith true a = Unit {0}
MayAskWith false a = asks kind.Left a ≡ true
