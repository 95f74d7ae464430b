-- A map that is changed in place, key by key. No public clause cites these words.
use Rattle.std.specs.Prelude.{◌≡◌, List, Option, Some, None, MatchBool}
use Rattle.std.specs.Option.{MatchOption, option_map, is_some}
use Rattle.std.specs.List.{filter}
use Rattle.std.specs.BTreeMap.{is_at}
use Rattle.std.specs.declared.cmp.Ordering.{Ordering}
use Rattle.vc_joins.specs.declared.question.OuterJoinArg.{OuterJoinArg}
use Rattle.vc_joins.specs.declared.question.OuterJoinArg.TheVariants.{Both}
use Rattle.vc_joins.specs.Entries.{AscendsByKey, entry_at}

module _ {K V W : Type 0} (cmp : K → K → Ordering) where
  module _ (May : OuterJoinArg K V W → Option V → Type 0) where
    -- what is at the key once its value was decided: what may stay of it, under the key that the
    -- map has
    abbrev pub IsKeptAt : K → W → Option (K × V) → Option (K × V) → Type 0
    IsKeptAt key w old new = MatchOption old (new ≡ None) (λ p. (r : Option V) × May (Both key p.1 w) r × (new ≡ option_map (λ v. (p.0, v)) r))

    -- new is old with the value at the key decided
    pub record IsKept (key : K) (w : W) (old new : List (K × V)) : Type 0 where
      pub ascends : AscendsByKey cmp new
      pub at : (k : K) → MatchBool (is_at (cmp k) key) (IsKeptAt key w (entry_at cmp old k) (entry_at cmp new k)) (entry_at cmp new k ≡ entry_at cmp old k)

    -- new is old with the values at the keys of the pairs decided
    pub record IsKeptAlong (pairs : List (K × W)) (old new : List (K × V)) : Type 0 where
      pub ascends : AscendsByKey cmp new
      pub at : (k : K) → MatchOption (entry_at cmp pairs k) (entry_at cmp new k ≡ entry_at cmp old k) (λ q. IsKeptAt q.0 q.1 (entry_at cmp old k) (entry_at cmp new k))

  -- the pairs at the keys of old
  abbrev pub shared_with : List (K × V) → List (K × W) → List (K × W)
  shared_with old pairs = filter (λ q. is_some (entry_at cmp old q.0)) pairs

  module _ (is_clone : K → K → Type 0) (Gives : K → W → Option V → Type 0) where
    -- what was given at a key that the map did not have
    abbrev pub IsGivenAt : Option (K × W) → Option (K × V) → Type 0
    IsGivenAt None found = found ≡ None
    IsGivenAt (Some q) None = Gives q.0 q.1 None
    IsGivenAt (Some q) (Some p) = is_clone q.0 p.0 × Gives q.0 q.1 (Some p.1)

    -- new is old, and what was given at the other keys of the pairs
    pub record IsGiven (pairs : List (K × W)) (old new : List (K × V)) : Type 0 where
      pub ascends : AscendsByKey cmp new
      pub at : (k : K) → MatchOption (entry_at cmp old k) (IsGivenAt (entry_at cmp pairs k) (entry_at cmp new k)) (λ p. entry_at cmp new k ≡ Some p)
