-- The outer join in place: what is given at the keys of the other map alone, and what then stays of the values that were there.
use Rattle.std.proofs.Common.{arith, ◌≡◌, Bool, true, false, cond, List, [], ◌∷◌, Option, Some, None, is_some}
use Rattle.std.proofs.Common.{Result, OnErr, refl, sym, ap, ◌∙◌}
use Rattle.std.proofs.lemmas.List.Kept.{IsStrictlySortedBy-filter}
use Rattle.std.specs.Cmp.{IsTotalOrder}
use Rattle.std.specs.List.{filter}
use Rattle.std.specs.Map.{keys_of}
use Rattle.std.specs.Option.{MatchOption}
use Rattle.std.specs.declared.cmp.Ordering.{Ordering}
use Rattle.std.specs.declared.cmp.Ordering.TheVariants.{Equal}
use Rattle.vc_joins.specs.declared.question.OuterJoinArg.{OuterJoinArg}
use Rattle.vc_joins.specs.declared.question.OuterJoinArg.TheVariants.{Left, Both}
use Rattle.vc_joins.specs.declared.question.JoinKind.TheVariants as kind
use Rattle.vc_joins.specs.Entries.{AscendsByKey, entry_at, value_at}
use Rattle.vc_joins.specs.Join.{IsAnswered, IsAsked, IsJoin, MovedKey}
use Rattle.vc_joins.specs.Question.{asked, left_spelling, right_spelling}
use Rattle.vc_btree_maps.specs.Keeping.{at_pair, AtAlone, OrSharedStays, OrGives, StayedOrCloned, IsGrown}
use Rattle.vc_btree_maps.specs.Putting.{IsPut}
use Rattle.vc_btree_maps.specs.Stages.{IsKeptAt, IsKeptAlong, IsGivenAt, IsGiven, shared_with}
use Rattle.vc_btree_maps.proofs.Entries.{none-by, equal-at, same-entry, own-key, at-own, value-is_some}
use Rattle.vc_btree_maps.proofs.Passing.{IsPassed, start, next, next-same, next-before, passed-all, either}
use Rattle.vc_btree_maps.proofs.Staying.{WasThere, next-new}

-- ---- the pairs at the keys of a map

module _ {K W : Type 0} {cmp : K → K → Ordering} (total : IsTotalOrder cmp) (test : K → Bool)
    (alike : (j k : K) → cmp j k ≡ Equal → test j ≡ test k) where
  -- they ascend as they did
  filter-ascends : (es : List (K × W)) → AscendsByKey cmp es → AscendsByKey cmp (filter (λ q. test q.0) es)
  filter-ascends es s = rw (keys es) (IsStrictlySortedBy-filter cmp test (keys_of es) s)
    where
      keys : (es : List (K × W)) → keys_of (filter (λ q. test q.0) es) ≡ filter test (keys_of es)
      keys [] = refl
      keys (e ∷ es) = grind (arith, keys es)

  -- and stand at their keys
  filter-entry : (es : List (K × W)) (k : K) → entry_at cmp (filter (λ q. test q.0) es) k
      ≡ cond (test k) (entry_at cmp es k) None
  filter-entry [] k = grind arith
  filter-entry (e ∷ es) k =
      grind (arith, alike k e.0, equal-at total k e.0, filter-entry es k)

module _ {K V W : Type 0} {cmp : K → K → Ordering} (total : IsTotalOrder cmp) (old : List (K × V)) (others : List (K × W)) where
  pub shared-ascends : AscendsByKey cmp others → AscendsByKey cmp (shared_with cmp old others)
  shared-ascends s = filter-ascends total (λ k. is_some (entry_at cmp old k))
      (λ j k e. ap is_some (same-entry total j k old e)) others s

  pub shared-entry : (k : K) → entry_at cmp (shared_with cmp old others) k
      ≡ cond (is_some (entry_at cmp old k)) (entry_at cmp others k) None
  shared-entry k = filter-entry total (λ k. is_some (entry_at cmp old k))
      (λ j k e. ap is_some (same-entry total j k old e)) others k

-- ---- what is given

-- at the key k stands what the old list has there, and else what was given
pub record IsGivenThere {K V W : Type 0} (cmp : K → K → Ordering) (is_clone : K → K → Type 0) (Gives : K → W → Option V → Type 0)
    (others : List (K × W)) (old : List (K × V)) (k : K) (z : Option (K × V)) : Type 0 where
  pub is : MatchOption (entry_at cmp old k) (IsGivenAt cmp is_clone Gives (entry_at cmp others k) z) (λ p. z ≡ Some p)

module _ {K V W : Type 0} {cmp : K → K → Ordering} (total : IsTotalOrder cmp) {is_clone : K → K → Type 0}
    {Gives : K → W → Option V → Type 0} {others : List (K × W)} {old : List (K × V)} where
  -- nothing is given yet
  pub none-given : AscendsByKey cmp others → AscendsByKey cmp old
      → IsPassed cmp (WasThere cmp old) (IsGivenThere cmp is_clone Gives others old) others others old
  none-given s t = start s t (λ k. record { same = refl })
      (λ k e b. record { is = rw e (grind arith) })

  module _ {rest : List (K × W)} {q : K × W} {now : List (K × V)}
      (i : IsPassed cmp (WasThere cmp old) (IsGivenThere cmp is_clone Gives others old) others (q ∷ rest) now) where
    -- a pair comes in
    pub next-given : (answer : Option V) {new : List (K × V)} → is_some (value_at cmp now q.0) ≡ false → Gives q.0 q.1 answer
        → IsPut cmp is_clone q.0 answer now new
        → IsPassed cmp (WasThere cmp old) (IsGivenThere cmp is_clone Gives others old) others rest new
    next-given answer {new} e g put =
        next total i put.ascends (λ k f. rw f at (put.at k))
        (λ k t is b. record {
          is = rw (same-entry total k q.0 old (equal-at total k q.0 t) ∙ next-new total i e, is)
              (grind (arith, g, rw t at (put.at k)));
        })

    -- a key that is there was there before
    pub next-had : (b : Bool) → is_some (value_at cmp now q.0) ≡ b → is_some (entry_at cmp old q.0) ≡ b
    next-had b e = ap is_some (sym (next-before total i).same) ∙ value-is_some total q.0 now ∙ e

    -- a key of both maps is passed
    pub next-shared : is_some (value_at cmp now q.0) ≡ true
        → IsPassed cmp (WasThere cmp old) (IsGivenThere cmp is_clone Gives others old) others rest now
    next-shared e =
        next-same total i (λ k t is b. record {
          is = grind (arith, b.same, same-entry total k q.0 old (equal-at total k q.0 t), next-had true e);
        })

  -- all is given
  pub all-given : {left : List (K × W)} {now : List (K × V)}
      → IsPassed cmp (WasThere cmp old) (IsGivenThere cmp is_clone Gives others old) others left now → left ≡ []
      → IsGiven cmp is_clone Gives others old now
  all-given i none = record { ascends = i.ascends; at = λ k. (passed-all i none k).is }

  -- what was given so far has grown the map
  pub grown : {left : List (K × W)} {now : List (K × V)}
      → IsPassed cmp (WasThere cmp old) (IsGivenThere cmp is_clone Gives others old) others left now
      → IsGrown cmp is_clone Gives others old now
  grown {left} {now} i = record {
    old_stay = λ k t. either i k (λ a. grind (arith, a.is)) (λ b. b.same);
    new_given = λ k f. let none = none-by (entry_at cmp old k) f in
        either i k (λ a. grind (arith, a.is, none)) (λ b. rw (b.same ∙ none) tt);
  }

-- what holds anyway holds after an error
pub after-error : {A E : Type 0} {P : Type 0} (r : Result A E) → P → OnErr r P
after-error r p = grind arith

-- ---- what stays, once all is given

module _ {K V W : Type 0} {cmp : K → K → Ordering} (total : IsTotalOrder cmp) {is_clone : K → K → Type 0}
    {Gives : K → W → Option V → Type 0} (May : OuterJoinArg K V W → Option V → Type 0) {others : List (K × W)}
    {old given : List (K × V)} (first : IsGiven cmp is_clone Gives others old given) where
  -- the last pass leaves a pair at a key of both maps as it is
  passes : (r : K × W) (b c : Option (K × V))
      → IsAnswered (OrSharedStays May) MovedKey (asked kind.Left left_spelling b (Some r)) c → c ≡ b
  passes r b c h = grind arith

  module _ {pairs : List (K × W)} {shared : List (K × V)} (is_shared : pairs ≡ shared_with cmp old others)
      (second : IsKeptAlong cmp May pairs given shared) where
    second-at : (k : K) → MatchOption (cond (is_some (entry_at cmp old k)) (entry_at cmp others k) None)
        (entry_at cmp shared k ≡ entry_at cmp given k)
        (λ q. IsKeptAt cmp May q.0 q.1 (entry_at cmp given k) (entry_at cmp shared k))
    second-at k = rw (ap (λ l. entry_at cmp l k) is_shared ∙ shared-entry total old others k) at (second.at k)

    -- the three passes make the outer join
    pub outer-of_passes : {new : List (K × V)} → IsJoin cmp kind.Left left_spelling shared others (OrSharedStays May) MovedKey new
        → IsJoin cmp kind.Outer right_spelling old others (OrGives May Gives) (StayedOrCloned cmp old is_clone) new
    outer-of_passes {new} third = record {
      ascends = third.ascends;
      at = λ k. grind (
        arith,
        passes,
        at-own total k old,
        own-key total k others,
        same-entry {V = V} total k,
        first.at k,
        second-at k,
        third.at k,
      );
    }

    -- what the last pass asks, the outer join asks
    pub third-takes : (Takes : OuterJoinArg K V W → Type 0)
        → ((k : K) (v : V) (w : Option W) → IsAsked cmp kind.Outer right_spelling old others (at_pair k v w)
        → Takes (at_pair k v w))
        → (x : OuterJoinArg K V W) → IsAsked cmp kind.Left left_spelling shared others x → AtAlone Takes x
    third-takes Takes takes x h =
        let left : (p : K × V) → asked kind.Outer right_spelling (entry_at cmp old h.key) (entry_at cmp others h.key)
        ≡ Some (Left p.0 p.1) → Takes (Left p.0 p.1) =
        λ p e. takes p.0 p.1 None (record { key = h.key; asks = e }) in
        grind (arith, left, first.at h.key, second-at h.key, h.asks)

  -- what the second pass asks, the outer join asks
  pub second-takes : (Takes : OuterJoinArg K V W → Type 0)
      → ((k : K) (v : V) (w : Option W) → IsAsked cmp kind.Outer right_spelling old others (at_pair k v w)
      → Takes (at_pair k v w))
      → (k : K) (r : K × W) (p : K × V) → entry_at cmp (shared_with cmp old others) k ≡ Some r
      → entry_at cmp given k ≡ Some p → Takes (Both r.0 p.1 r.1)
  second-takes Takes takes k r p e f =
      takes r.0 p.1 (Some r.1) (record {
        key = k;
        asks = grind (arith, shared-entry total old others k, first.at k);
      })
