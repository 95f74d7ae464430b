-- What closures of joins may answer. `seen` turns the references that a closure sees into the
-- question that they stand for.
use Rattle.std.specs.Prelude.{◌≡◌, Option, Some, None}
use denote.Ref.{Bor}
use denote.Param.Members.{Shared}
use Rattle.vc_joins.specs.declared.question.OuterJoinArg.{OuterJoinArg}
use Rattle.vc_joins.specs.declared.question.OuterJoinArg.TheVariants.{Left, Right, Both}

module _ {K V W : Type 0} where
  -- what the closure of an outer join sees
  abbrev pub seen : OuterJoinArg (Bor K) (Bor V) (Bor W) → OuterJoinArg K V W
  seen (Left k v) = Left k.now v.now
  seen (Right k w) = Right k.now w.now
  seen (Both k v w) = Both k.now v.now w.now

  -- what the closure of a left join sees
  abbrev pub seen_left : Bor K → Bor V → Option (Bor W) → OuterJoinArg K V W
  seen_left k v None = Left k.now v.now
  seen_left k v (Some w) = Both k.now v.now w.now

  -- what the closure of a right join sees
  abbrev pub seen_right : Bor K → Option (Bor V) → Bor W → OuterJoinArg K V W
  seen_right k None w = Right k.now w.now
  seen_right k (Some v) w = Both k.now v.now w.now

  -- what the closure of an inner join sees
  abbrev pub seen_inner : Bor K → Bor V → Bor W → OuterJoinArg K V W
  seen_inner k v w = Both k.now v.now w.now

  -- the closure of an outer join may answer r to the question a
  pub record MayAnswer {F R : Type 0} (g : Shared F (OuterJoinArg (Bor K) (Bor V) (Bor W) × Unit {0}) R) (f : F) (a : OuterJoinArg K V W) (r : R) : Type 0 where
    pub shown : OuterJoinArg (Bor K) (Bor V) (Bor W)
    pub shows : seen shown ≡ a
    pub says : g.post f (shown, tt) r

  -- the closure of a left join may
  pub record MayAnswerLeft {F R : Type 0} (g : Shared F (Bor K × (Bor V × (Option (Bor W) × Unit {0}))) R) (f : F) (a : OuterJoinArg K V W) (r : R) : Type 0 where
    pub key : Bor K
    pub value : Bor V
    pub other : Option (Bor W)
    pub shows : seen_left key value other ≡ a
    pub says : g.post f (key, (value, (other, tt))) r

  -- the closure of a right join may
  pub record MayAnswerRight {F R : Type 0} (g : Shared F (Bor K × (Option (Bor V) × (Bor W × Unit {0}))) R) (f : F) (a : OuterJoinArg K V W) (r : R) : Type 0 where
    pub key : Bor K
    pub value : Option (Bor V)
    pub other : Bor W
    pub shows : seen_right key value other ≡ a
    pub says : g.post f (key, (value, (other, tt))) r

  -- the closure of an inner join may
  pub record MayAnswerInner {F R : Type 0} (g : Shared F (Bor K × (Bor V × (Bor W × Unit {0}))) R) (f : F) (a : OuterJoinArg K V W) (r : R) : Type 0 where
    pub key : Bor K
    pub value : Bor V
    pub other : Bor W
    pub shows : seen_inner key value other ≡ a
    pub says : g.post f (key, (value, (other, tt))) r
