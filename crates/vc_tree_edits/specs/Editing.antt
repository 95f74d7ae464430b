-- How a change of a tree in place treats values, and what its closures may do.
use Rattle.std.specs.Prelude.{◌≡◌, Bool, cond, not, Option, Some, None, ⊤}
use denote.Ref.{Bor, MutBor}
use denote.Param.Members.{Shared}
use Rattle.vc_tree_model.specs.Value.{IsKept}
use Rattle.vc_tree_model.specs.Cover.{StaysOrGoes}

module _ {V W F : Type 0} (g : Shared F (MutBor V × (Bor W × Unit {0})) (Bool × (MutBor V × Unit {0}))) (f : F) where
  -- a call at the value v itself, and at w, may leave z: the value that the closure left, or nothing
  pub record MayLeave (v : V) (w : W) (z : Option V) : Type 0 where
    pub given : MutBor V
    pub other : Bor W
    pub shows : (given.now ≡ v) × (other.now ≡ w)
    pub stays : Bool
    pub left : MutBor V
    pub answers : g.post f (given, (other, tt)) (stays, (left, tt))
    pub leaves : z ≡ cond stays (Some left.now) None

  -- it may be called there
  abbrev pub CanLeave : V → W → Type 0
  CanLeave v w = (p : MutBor V) (q : Bor W) → p.now ≡ v → q.now ≡ w → g.pre f (p, (q, tt))

module _ {V W : Type 0} (keeps : V → V → Type 0) where
  -- z is what may result from a value that is kept from v, at w
  abbrev pub KeptThen : (V → W → Option V → Type 0) → V → W → Option V → Type 0
  KeptThen may v w z = (kept : V) × keeps v kept × may kept w z

  -- what may be asked at each value that is kept from v, and at w
  abbrev pub CanMeet : (V → W → Type 0) → Option V → Option W → Type 0
  CanMeet takes (Some v) (Some w) = (kept : V) → keeps v kept → takes kept w
  CanMeet takes (Some v) None = ⊤
  CanMeet takes None w = ⊤

  -- what may result at a key of both; a value of only the left side stays
  abbrev pub OrStays : (V → W → Option V → Type 0) → V → Option W → Option V → Type 0
  OrStays may v (Some w) z = may v w z
  OrStays may v None z = IsKept keeps (Some v) z

  -- at a shared key, what may result; a value of only the left side stays or is removed, and no
  -- other key is bound
  abbrev pub IsMetAt : Bool → (V → W → Option V → Type 0) → Option V → Option W → Option V → Type 0
  IsMetAt stays may (Some v) (Some w) z = may v w z
  IsMetAt stays may (Some v) None z = StaysOrGoes keeps stays v z
  IsMetAt stays may None w z = z ≡ None

-- the verdict on a key of this cover: what may be said of it, or otherwise what is known
abbrev pub IsJudged : {W : Type 0} → (W → Bool → Type 0) → Bool → Option W → Bool → Type 0
IsJudged may known None covered = covered ≡ known
IsJudged may known (Some w) covered = may w covered

-- no value is added, and a value is kept or removed by such a verdict
abbrev pub IsSiftedBy : {V W : Type 0} → (V → V → Type 0) → (W → Bool → Type 0) → Bool → (Bool → Bool) → Option V → Option W
    → Option V → Type 0
IsSiftedBy keeps may known stays None c z = z ≡ None
IsSiftedBy keeps may known stays (Some v) c z =
    (covered : Bool) × IsJudged may known c covered × StaysOrGoes keeps (stays covered) v z

-- whether a value stays: where those are retained that are covered, and where the others are
abbrev pub stays_by : Bool → Bool → Bool
stays_by retains covered = cond retains covered (not covered)
