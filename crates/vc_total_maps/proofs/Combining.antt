-- What a join of the lists of two total maps asks, and the result of its answers.
use Rattle.std.proofs.Common.{◌≡◌, Bool, true, false, List, Option, Some, None, Result, Ok, Err, IfOk, IsSome, IfSome}
use Rattle.std.proofs.Common.{◌⊎◌, inl, inr, refl, subst}
use Rattle.std.specs.Option.{option_map, unwrap_or}
use Rattle.std.specs.declared.cmp.Ordering.{Ordering}
use Rattle.vc_joins.specs.declared.question.OuterJoinArg.{OuterJoinArg}
use Rattle.vc_joins.specs.declared.question.OuterJoinArg.TheVariants.{Left, Right, Both}
use Rattle.vc_joins.specs.declared.question.JoinKind.TheVariants.{Outer}
use Rattle.smallvec.specs.SmallVec.{SmallVec}
use Rattle.vc_joins.specs.Entries.{AscendsByKey, entry_at, value_at}
use Rattle.vc_joins.specs.Join.{IsAnswered, IsAsked, IsJoin, ClonedKey}
use Rattle.vc_joins.specs.Question.{asked, left_spelling}
use Rattle.vc_joins.proofs.Functions.{value-entry}
use Rattle.vc_total_maps.specs.Asking.{left_value, right_value, MayPlace}
use Rattle.vc_total_maps.specs.CombinedTotals.{HoldsEverywhere, IsCombined, Stands, ClonesFirst}
use Rattle.vc_total_maps.specs.TotalMap.{NoneIsDefault, TotalMap, total_map}

some-is : {A : Type 0} {x y : A} → Some x ≡ Some y → x ≡ y
some-is e = cc

module _ {K V W : Type 0} (d : V) (e : W) (P : V → W → Type 0) where
  -- what holds of the values at a listed key holds of the values that a question about it shows
  asked-shows : (p : Option (K × V)) (q : Option (K × W)) (a : OuterJoinArg K V W) → asked Outer left_spelling p q ≡ Some a
      → ((IsSome (option_map (λ p. p.1) p) ⊎ IsSome (option_map (λ p. p.1) q))
      → P (unwrap_or (option_map (λ p. p.1) p) d) (unwrap_or (option_map (λ p. p.1) q) e)) → P (left_value d a) (right_value e a)
  asked-shows (Some p) (Some q) a is h = let same : Both p.0 p.1 q.1 ≡ a = some-is is in
      subst (λ a. P (left_value d a) (right_value e a)) same (h (inl refl))
  asked-shows (Some p) None a is h = let same : Left p.0 p.1 ≡ a = some-is is in
      subst (λ a. P (left_value d a) (right_value e a)) same (h (inl refl))
  asked-shows None (Some q) a is h = let same : Right q.0 q.1 ≡ a = some-is is in
      subst (λ a. P (left_value d a) (right_value e a)) same (h (inr refl))
  asked-shows None None a is h = let none : None ≡ Some a = is in cc

  pub takes-values : (cmp : K → K → Ordering) (xs : List (K × V)) (ys : List (K × W))
      → HoldsEverywhere cmp P (total_map xs d) (total_map ys e) → (a : OuterJoinArg K V W)
      → IsAsked cmp Outer left_spelling xs ys a → P (left_value d a) (right_value e a)
  takes-values cmp xs ys all a asks =
      asked-shows (entry_at cmp xs asks.key) (entry_at cmp ys asks.key) a asks.asks
      (rw (← value-entry cmp xs asks.key, ← value-entry cmp ys asks.key) (all.listed asks.key))

module _ {K V W X : Type 0} (eq : X → X → Bool) (May : V → W → X → Type 0) (is_clone : K → K → Type 0) (d : V)
    (e : W) (f : X) (says : May d e f) (same : eq f f ≡ true) where
  abbrev pub MayAsk : OuterJoinArg K V W → Option X → Type 0
  MayAsk a r = MayPlace eq (May (left_value d a) (right_value e a)) f (Ok r)

  -- at each key stands an answer on the values there
  answer-stands : (p : Option (K × V)) (q : Option (K × W)) (z : Option (K × X))
      → IsAnswered MayAsk (ClonedKey is_clone) (asked Outer left_spelling p q) z
      → (v : X) × May (unwrap_or (option_map (λ p. p.1) p) d) (unwrap_or (option_map (λ p. p.1) q) e) v
      × Stands eq f v (option_map (λ p. p.1) z)
  answer-stands (Some p) (Some q) (Some r) h = h.0
  answer-stands (Some p) None (Some r) h = h.0
  answer-stands None (Some q) (Some r) h = h.0
  answer-stands None None z h = rw h (f, says, same)
  answer-stands x y z h = h

  -- a key is listed as a clone of the one that was shown
  answer-spells : (p : Option (K × V)) (q : Option (K × W)) (z : Option (K × X))
      → IsAnswered MayAsk (ClonedKey is_clone) (asked Outer left_spelling p q) z
      → IfSome z (λ r. ClonesFirst is_clone p q r.0)
  answer-spells p q None h = tt
  answer-spells (Some p) (Some q) (Some r) h = h.1
  answer-spells (Some p) None (Some r) h = h.1
  answer-spells None (Some q) (Some r) h = h.1
  answer-spells None None (Some r) h = let none : Some r ≡ None = h in cc

  pub join-combines : (cmp : K → K → Ordering) (xs : List (K × V)) (ys : List (K × W)) (zs : List (K × X))
      → IsJoin cmp Outer left_spelling xs ys MayAsk (ClonedKey is_clone) zs
      → IsCombined cmp eq May is_clone (total_map xs d) (total_map ys e) (total_map zs f)
  join-combines cmp xs ys zs joins = record {
    default = says;
    values = λ k. rw (value-entry cmp xs k, value-entry cmp ys k, value-entry cmp zs k)
        (answer-stands (entry_at cmp xs k) (entry_at cmp ys k) (entry_at cmp zs k) (joins.at k));
    keys = λ k. answer-spells (entry_at cmp xs k) (entry_at cmp ys k) (entry_at cmp zs k) (joins.at k);
  }

  pub joined-combines : {E : Type 0} (cmp : K → K → Ordering) (xs : List (K × V)) (ys : List (K × W))
      (r : Result (SmallVec (K × X)) E) → IfOk r (λ v. IsJoin cmp Outer left_spelling xs ys MayAsk (ClonedKey is_clone) v.items)
      → IfOk r (λ v. IsCombined cmp eq May is_clone (total_map xs d) (total_map ys e) (total_map v.items f))
  joined-combines cmp xs ys (Ok v) joins = join-combines cmp xs ys v.items joins
  joined-combines cmp xs ys (Err e) joins = tt

-- a join ascends
pub joined-ascends : {K V W X E : Type 0} (May : OuterJoinArg K V W → Option X → Type 0) (Keeps : OuterJoinArg K V W → K → Type 0)
    (cmp : K → K → Ordering) (xs : List (K × V)) (ys : List (K × W)) (r : Result (SmallVec (K × X)) E)
    → IfOk r (λ v. IsJoin cmp Outer left_spelling xs ys May Keeps v.items) → IfOk r (λ v. AscendsByKey cmp v.items)
joined-ascends May Keeps cmp xs ys (Ok v) joins = joins.ascends
joined-ascends May Keeps cmp xs ys (Err e) joins = tt

-- what stands at a key and is listed there does not equal the default
pub stands-apart : {X : Type 0} (eq : X → X → Bool) (f v : X) (o : Option X) → Stands eq f v o → IfSome o (λ x. eq x f ≡ false)
stands-apart eq f v None h = tt
stands-apart eq f v (Some x) h = rw h.0 h.1

-- what is combined lists no value that equals its default
pub combined-canonical : {K V W X : Type 0} (cmp : K → K → Ordering) (eq : X → X → Bool) (May : V → W → X → Type 0)
    (is_clone : K → K → Type 0) (a : TotalMap K V) (b : TotalMap K W) (c : TotalMap K X)
    → IsCombined cmp eq May is_clone a b c → NoneIsDefault cmp eq c
combined-canonical cmp eq May is_clone a b c made k = let v = made.values k in
    stands-apart eq c.default v.0 (value_at cmp c.mappings k) v.2
