-- What closures of joins in place may answer: they take the value of the left map by value, and the
-- rest by reference.
use Rattle.std.specs.Prelude.{◌≡◌, Option, Some, None}
use denote.Ref.{Bor}
use denote.Param.Members.{Shared}
use Rattle.vc_joins.specs.declared.question.OuterJoinArg.{OuterJoinArg}
use Rattle.vc_joins.specs.declared.question.OuterJoinArg.TheVariants.{Left, Right, Both}

module _ {K V W : Type 0} where
  -- what the closure of an outer join takes
  abbrev pub handed : OuterJoinArg (Bor K) V (Bor W) → OuterJoinArg K V W
  handed (Left k v) = Left k.now v
  handed (Right k w) = Right k.now w.now
  handed (Both k v w) = Both k.now v w.now

  -- what the closure of a left join takes
  abbrev pub handed_left : Bor K → V → Option (Bor W) → OuterJoinArg K V W
  handed_left k v None = Left k.now v
  handed_left k v (Some w) = Both k.now v w.now

  -- what the closure of a right join takes
  abbrev pub handed_right : Bor K → Option V → Bor W → OuterJoinArg K V W
  handed_right k None w = Right k.now w.now
  handed_right k (Some v) w = Both k.now v w.now

  -- what the closure of an inner join takes
  abbrev pub handed_inner : Bor K → V → Bor W → OuterJoinArg K V W
  handed_inner k v w = Both k.now v w.now

  -- the closure of an outer join in place may answer r to the question a
  pub record MayTurn {F R : Type 0} (g : Shared F (OuterJoinArg (Bor K) V (Bor W) × Unit {0}) R) (f : F) (a : OuterJoinArg K V W) (r : R) : Type 0 where
    pub given : OuterJoinArg (Bor K) V (Bor W)
    pub shows : handed given ≡ a
    pub says : g.post f (given, tt) r

  -- the closure of a left join may
  pub record MayTurnLeft {F R : Type 0} (g : Shared F (Bor K × (V × (Option (Bor W) × Unit {0}))) R) (f : F) (a : OuterJoinArg K V W) (r : R) : Type 0 where
    pub key : Bor K
    pub value : V
    pub other : Option (Bor W)
    pub shows : handed_left key value other ≡ a
    pub says : g.post f (key, (value, (other, tt))) r

  -- the closure of a right join may
  pub record MayTurnRight {F R : Type 0} (g : Shared F (Bor K × (Option V × (Bor W × Unit {0}))) R) (f : F) (a : OuterJoinArg K V W) (r : R) : Type 0 where
    pub key : Bor K
    pub value : Option V
    pub other : Bor W
    pub shows : handed_right key value other ≡ a
    pub says : g.post f (key, (value, (other, tt))) r

  -- the closure of an inner join may
  pub record MayTurnInner {F R : Type 0} (g : Shared F (Bor K × (V × (Bor W × Unit {0}))) R) (f : F) (a : OuterJoinArg K V W) (r : R) : Type 0 where
    pub key : Bor K
    pub value : V
    pub other : Bor W
    pub shows : handed_inner key value other ≡ a
    pub says : g.post f (key, (value, (other, tt))) r
