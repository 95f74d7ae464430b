-- What a test of key and value leaves of a tree, and calls of that test.
use Rattle.std.specs.Prelude.{◌≡◌, ◌||◌, ◌&&◌, Bool, false, not, Contains, IsTrue, List, Option, Some, None, ⊤}
use Rattle.std.specs.Option.{is_some}
use Rattle.std.specs.declared.cmp.Ordering.{Ordering}
use denote.Ref.{Bor}
use denote.Param.Members.{Shared}
use Rattle.vc_tree_model.specs.Cover.{StaysOrGoes}
use Rattle.vc_tree_model.specs.Key.{same_key}
use Rattle.vc_tree_model.specs.Map.{lookup}
use Rattle.vc_tree_model.specs.Tree.{Tree}
use Rattle.vc_tree_model.specs.Walk.{walk}

module _ {K V F : Type 0} (g : Shared F (Bor (List K) × (Bor V × Unit {0})) Bool) (f : F) where
  -- a call at references to the key and to v may answer so
  pub record MayTell (key : List K) (v : V) (stays : Bool) : Type 0 where
    pub shown : Bor (List K)
    pub value : Bor V
    pub shows : (shown.now ≡ key) × (value.now ≡ v)
    pub answers : g.post f (shown, (value, tt)) stays

  -- it may be called at the key and its value, if there is one
  abbrev pub CanTell : List K → Option V → Type 0
  CanTell key None = ⊤
  CanTell key (Some v) = (shown : Bor (List K)) (value : Bor V) → shown.now ≡ key → value.now ≡ v → g.pre f (shown, (value, tt))

module _ {K V : Type 0} (cmp : K → K → Ordering) where
  module _ (may : List K → V → Bool → Type 0) where
    -- the test may answer so at v and the key, as the walk of the tree spells it
    pub record IsTold (t : Tree K V) (key : List K) (v : V) (stays : Bool) : Type 0 where
      pub spelled : List K
      pub same : IsTrue (same_key cmp spelled key)
      pub walked : Contains (walk t) (spelled, v)
      pub told : may spelled v stays

    module _ (keeps : V → V → Type 0) where
      -- at one key of the tree, what z is of what was bound: the value, kept, where the test may
      -- answer true, and nothing where it may answer false, or where nothing was bound
      abbrev pub StaysAsTold : Tree K V → List K → Option V → Option V → Type 0
      StaysAsTold t key None z = z ≡ None
      StaysAsTold t key (Some v) z = (stays : Bool) × IsTold t key v stays × StaysOrGoes keeps stays v z

      -- u binds the keys of t at which the test answers true, and keeps their values
      abbrev pub IsRetainedAsTold : Tree K V → Tree K V → Type 0
      IsRetainedAsTold t u = (key : List K) → StaysAsTold t key (lookup cmp t key) (lookup cmp u key)

    -- at one key of the tree, whether it goes: where the test may answer false. No public clause
    -- cites this word, nor the next ones
    abbrev pub GoesAsTold : Tree K V → List K → Option V → Bool → Type 0
    GoesAsTold t key None goes = goes ≡ false
    GoesAsTold t key (Some v) goes = (stays : Bool) × IsTold t key v stays × (goes ≡ not stays)

-- whether a tree of keys alone binds the key
abbrev pub binds : {K : Type 0} → (K → K → Ordering) → Tree K (Unit {0}) → List K → Bool
binds cmp t key = is_some (lookup cmp t key)

-- of the keys that go, those after a call are those before it, and the key where the test may have
-- answered false there
abbrev pub IsNoted : {K V : Type 0} → (K → K → Ordering) → (List K → V → Bool → Type 0) → List K → V → (List K → Bool) → (List K → Bool) → Type 0
IsNoted {K} cmp may key v before after =
    (stays : Bool) × may key v stays × ((k : List K) → after k ≡ (before k || (not stays && same_key cmp key k)))
