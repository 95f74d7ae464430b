-- Calls of the closures of combines and of tests of covers, as relations between values and
-- answers.
use Rattle.std.specs.Prelude.{◌≡◌, Bool, Option, Some, None, ⊤}
use Rattle.std.specs.Option.{option_copied}
use denote.Ref.{Bor}
use denote.Param.Members.{Shared}

module _ {V W F R : Type 0} where
  module _ (g : Shared F (Bor V × (Bor W × Unit {0})) R) (f : F) where
    -- a call at a reference to v and one to w may answer r
    pub record MayAnswer (v : V) (w : W) (r : R) : Type 0 where
      pub left : Bor V
      pub right : Bor W
      pub shows : (left.now ≡ v) × (right.now ≡ w)
      pub answers : g.post f (left, (right, tt)) r

    -- it may be called at what both sides bind
    abbrev pub CanAsk : Option V → Option W → Type 0
    CanAsk (Some v) (Some w) = (p : Bor V) (q : Bor W) → p.now ≡ v → q.now ≡ w → g.pre f (p, (q, tt))
    CanAsk (Some v) None = ⊤
    CanAsk None w = ⊤

  module _ (g : Shared F (Bor V × (Option (Bor W) × Unit {0})) R) (f : F) where
    -- a call at a reference to v, and one to w where that is there, may answer r
    pub record MayAnswerAt (v : V) (w : Option W) (r : R) : Type 0 where
      pub left : Bor V
      pub right : Option (Bor W)
      pub shows : (left.now ≡ v) × (option_copied right ≡ w)
      pub answers : g.post f (left, (right, tt)) r

    -- it may be called at what the left one binds, with what the right one binds there
    abbrev pub CanAskAt : Option V → Option W → Type 0
    CanAskAt (Some v) w = (p : Bor V) (q : Option (Bor W)) → p.now ≡ v → option_copied q ≡ w → g.pre f (p, (q, tt))
    CanAskAt None w = ⊤

module _ {W F : Type 0} (g : Shared F (Bor W × Unit {0}) Bool) (f : F) where
  -- it may be called at the value, if there is one
  abbrev pub CanJudge : Option W → Type 0
  CanJudge None = ⊤
  CanJudge (Some w) = (q : Bor W) → q.now ≡ w → g.pre f (q, tt)

  -- a call at the value may give this answer
  pub record MayJudge (w : W) (covered : Bool) : Type 0 where
    pub shown : Bor W
    pub shows : shown.now ≡ w
    pub answers : g.post f (shown, tt) covered
