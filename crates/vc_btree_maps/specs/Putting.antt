-- An answer that is put into the map of a join. No public clause cites these words.
use Rattle.std.specs.Prelude.{◌≡◌, List, Option, Some, None, IsSomeAnd, MatchBool}
use Rattle.std.specs.BTreeMap.{is_at}
use Rattle.std.specs.declared.cmp.Ordering.{Ordering}
use Rattle.vc_joins.specs.declared.question.OuterJoinArg.{OuterJoinArg}
use Rattle.vc_joins.specs.Question.{shown_key}
use Rattle.vc_joins.specs.Entries.{AscendsByKey, entry_at}

-- what is at a key where the answer is put: nothing, or the answer under a clone of the key
abbrev pub IsPutAt : {K X : Type 0} → (K → K → Type 0) → K → Option X → Option (K × X) → Type 0
IsPutAt is_clone key None found = found ≡ None
IsPutAt is_clone key (Some x) found = IsSomeAnd found (λ p. is_clone key p.0 × (p.1 ≡ x))

-- new is old with the answer put at the key
pub record IsPut {K X : Type 0} (cmp : K → K → Ordering) (is_clone : K → K → Type 0) (key : K) (answer : Option X) (old new : List (K × X)) : Type 0 where
  pub ascends : AscendsByKey cmp new
  pub at : (k : K) → MatchBool (is_at (cmp k) key) (IsPutAt is_clone key answer (entry_at cmp new k)) (entry_at cmp new k ≡ entry_at cmp old k)

-- new is old with a possible answer to the question put at the key that it shows
pub record IsAskedAndPut {K V W X : Type 0} (cmp : K → K → Ordering) (is_clone : K → K → Type 0)
    (May : OuterJoinArg K V W → Option X → Type 0) (a : OuterJoinArg K V W) (old new : List (K × X)) : Type 0 where
  pub answer : Option X
  pub may : May a answer
  pub put : IsPut cmp is_clone (shown_key a) answer old new
