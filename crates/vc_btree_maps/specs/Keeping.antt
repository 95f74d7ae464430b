-- Closures that decide in place what stays of the values of a map.
use Rattle.std.specs.Prelude.{◌≡◌, Bool, cond, List, Option, Some, None, IsSomeAnd, true, false}
use Rattle.std.specs.Option.{MatchOption, option_copied, is_some}
use Rattle.std.specs.declared.cmp.Ordering.{Ordering}
use denote.Ref.{Bor, MutBor}
use denote.Param.Members.{Shared}
use Rattle.vc_joins.specs.declared.question.OuterJoinArg.{OuterJoinArg}
use Rattle.vc_joins.specs.declared.question.OuterJoinArg.TheVariants.{Left, Right, Both}
use Rattle.vc_joins.specs.Entries.{entry_at}
use Rattle.vc_joins.specs.Question.{shown_key}

-- what is left of a value where the closure made it v and answered `kept`
abbrev pub if_kept : {V : Type 0} → Bool → V → Option V
if_kept kept v = cond kept (Some v) None

module _ {K V W : Type 0} where
  -- the question at a pair of this map, with the value that the other one has there
  abbrev pub at_pair : K → V → Option W → OuterJoinArg K V W
  at_pair k v None = Left k v
  at_pair k v (Some w) = Both k v w

  -- the closure may answer the question a, and r is what stays
  pub record MayLeave {F : Type 0} (g : Shared F (Bor K × (MutBor V × (Option (Bor W) × Unit {0}))) (Bool × (MutBor V × Unit {0}))) (f : F) (a : OuterJoinArg K V W) (r : Option V) : Type 0 where
    pub key : Bor K
    pub value : MutBor V
    pub other : Option (Bor W)
    pub shows : at_pair key.now value.now (option_copied other) ≡ a
    pub kept : Bool
    pub left : MutBor V
    pub says : g.post f (key, (value, (other, tt))) (kept, (left, tt))
    pub stays : r ≡ if_kept kept left.now

  -- the same of a closure that is called only at keys of both maps
  pub record MayLeaveShared {F : Type 0} (g : Shared F (Bor K × (MutBor V × (Bor W × Unit {0}))) (Bool × (MutBor V × Unit {0}))) (f : F) (a : OuterJoinArg K V W) (r : Option V) : Type 0 where
    pub key : Bor K
    pub value : MutBor V
    pub other : Bor W
    pub shows : Both key.now value.now other.now ≡ a
    pub kept : Bool
    pub left : MutBor V
    pub says : g.post f (key, (value, (other, tt))) (kept, (left, tt))
    pub stays : r ≡ if_kept kept left.now

  -- the closure for keys of only the other map may answer r
  pub record MayGive {F : Type 0} (g : Shared F (Bor K × (Bor W × Unit {0})) (Option V)) (f : F) (k : K) (w : W) (r : Option V) : Type 0 where
    pub key : Bor K
    pub other : Bor W
    pub shows : (key.now ≡ k) × (other.now ≡ w)
    pub says : g.post f (key, (other, tt)) r

  module _ (Of : OuterJoinArg K V W → Option V → Type 0) where
    -- at a key of only this map the value is unchanged
    abbrev pub OrStays : OuterJoinArg K V W → Option V → Type 0
    OrStays (Left k v) r = r ≡ Some v
    OrStays (Right k w) r = Of (Right k w) r
    OrStays (Both k v w) r = Of (Both k v w) r

    -- at a key of only this map no value stays
    abbrev pub OrDropped : OuterJoinArg K V W → Option V → Type 0
    OrDropped (Left k v) r = r ≡ None
    OrDropped (Right k w) r = Of (Right k w) r
    OrDropped (Both k v w) r = Of (Both k v w) r

    -- at a key of both maps the value is unchanged
    abbrev pub OrSharedStays : OuterJoinArg K V W → Option V → Type 0
    OrSharedStays (Left k v) r = Of (Left k v) r
    OrSharedStays (Right k w) r = Of (Right k w) r
    OrSharedStays (Both k v w) r = r ≡ Some v

    -- at a key of only the other map another closure is called
    abbrev pub OrGives : (K → W → Option V → Type 0) → OuterJoinArg K V W → Option V → Type 0
    OrGives Gives (Left k v) r = Of (Left k v) r
    OrGives Gives (Right k w) r = Gives k w r
    OrGives Gives (Both k v w) r = Of (Both k v w) r

  -- P is required at a key of only this map
  abbrev pub AtAlone : (OuterJoinArg K V W → Type 0) → OuterJoinArg K V W → Type 0
  AtAlone P (Left k v) = P (Left k v)
  AtAlone P (Right k w) = Unit {0}
  AtAlone P (Both k v w) = Unit {0}

  module _ (cmp : K → K → Ordering) (old : List (K × V)) where
    -- a pair of the map keeps its key, whichever equal one was shown
    abbrev pub StayedKey : OuterJoinArg K V W → K → Type 0
    StayedKey a k = IsSomeAnd (entry_at cmp old (shown_key a)) (λ p. k ≡ p.0)

    -- the same, and a new key is a clone of the one that was shown
    abbrev pub StayedOrCloned : (K → K → Type 0) → OuterJoinArg K V W → K → Type 0
    StayedOrCloned is_clone a k = MatchOption (entry_at cmp old (shown_key a)) (is_clone (shown_key a) k) (λ p. k ≡ p.0)

-- new is the old map, and some pairs at keys of only the other map, each a clone of the key with a
-- value that may be given there
pub record IsGrown {K V W : Type 0} (cmp : K → K → Ordering) (is_clone : K → K → Type 0) (Gives : K → W → Option V → Type 0) (others : List (K × W)) (old new : List (K × V)) : Type 0 where
  pub old_stay : (k : K) → is_some (entry_at cmp old k) ≡ true → entry_at cmp new k ≡ entry_at cmp old k
  pub new_given : (k : K) → is_some (entry_at cmp old k) ≡ false
      → MatchOption (entry_at cmp new k) (Unit {0})
      (λ p. IsSomeAnd (entry_at cmp others k) (λ q. is_clone q.0 p.0 × Gives q.0 q.1 (Some p.1)))
