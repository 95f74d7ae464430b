-- Keys that the keys of another map cover: of all of its keys that are prefixes of a key, the longest decides.
use Rattle.std.specs.Prelude.{◌≡◌, ◌≤◌, Bool, true, false, not, List, [], ◌∷◌, length, Option, Some, None}
use Rattle.std.specs.declared.cmp.Ordering.{Ordering}
use Rattle.vc_tree_model.specs.Key.{Starts}
use Rattle.vc_tree_model.specs.Value.{IsKept}
use Rattle.vc_tree_model.specs.Map.{or_else}

module _ {K W : Type 0} where
  -- the value of the longest key of q that is a prefix of a key: a key that begins as this one is
  -- preferred to the empty key
  abbrev pub cover : (List K → Option W) → List K → Option W
  cover q [] = q []
  cover q (x ∷ k) = or_else (cover (λ rest. q (x ∷ rest)) k) (q [])

  -- p is a key of q and a prefix of k, no other such key is longer, and w is its value
  pub record IsLongestCover (cmp : K → K → Ordering) (q : List K → Option W) (k p : List K) (w : W) : Type 0 where
    pub prefix : Starts cmp k p
    pub bound : q p ≡ Some w
    pub longest : (r : List K) (u : W) → Starts cmp k r → q r ≡ Some u → length r ≤ length p

module _ {W : Type 0} (may : W → Bool → Type 0) where
  -- a key without a cover is not covered; another key is covered as the test may answer for its
  -- cover
  abbrev pub IsVerdict : Option W → Bool → Type 0
  IsVerdict None covered = covered ≡ false
  IsVerdict (Some w) covered = may w covered

-- a value is kept where it stays, and removed where not
abbrev pub StaysOrGoes : {V : Type 0} → (V → V → Type 0) → Bool → V → Option V → Type 0
StaysOrGoes keeps true v z = IsKept keeps (Some v) z
StaysOrGoes keeps false v z = z ≡ None

module _ {V W : Type 0} (keeps : V → V → Type 0) (may : W → Bool → Type 0) where
  -- at one key with the cover c: no value is added, and a value is kept or removed by a verdict on
  -- the cover
  abbrev pub IsSifted : (Bool → Bool) → Option W → Option V → Option V → Type 0
  IsSifted stays c None z = z ≡ None
  IsSifted stays c (Some v) z = (covered : Bool) × IsVerdict may c covered × StaysOrGoes keeps (stays covered) v z

  module _ {K : Type 0} where
    -- of the map f, g binds the keys that the keys of q do not cover
    abbrev pub IsRemoved : (List K → Option W) → (List K → Option V) → (List K → Option V) → Type 0
    IsRemoved q f g = (k : List K) → IsSifted not (cover q k) (f k) (g k)

    -- of the map f, g binds the keys that the keys of q cover
    abbrev pub IsRetained : (List K → Option W) → (List K → Option V) → (List K → Option V) → Type 0
    IsRetained q f g = (k : List K) → IsSifted (λ covered. covered) (cover q k) (f k) (g k)
