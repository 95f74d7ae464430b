-- Joins of `BTreeMap` by values, for closures that look only at values.
use Rattle.std.proofs.Common.{arith, ◌≡◌, Bool, List, Option, Some, Result, IfOk, OnOk, refl, ◌∙◌}
use Rattle.std.specs.declared.cmp.Ordering.{Ordering}
use denote.Ref.{Bor, MutBor}
use denote.Param.Members.{Shared}
use Rattle.vc_joins.specs.declared.question.OuterJoinArg.{OuterJoinArg}
use Rattle.vc_joins.specs.declared.question.JoinKind.TheVariants.{Outer, Left, Inner}
use Rattle.vc_joins.specs.Entries.{value_at}
use Rattle.vc_joins.specs.Join.{IsJoinBy}
use Rattle.vc_joins.specs.Values.{in_both, in_left, of_values, JoinsValues}
use Rattle.vc_joins.proofs.Values.{kind-joins, first_of, both_of, left-kind, both-kind}
use Rattle.vc_btree_maps.specs.Keeping.{MayLeave, MayLeaveShared, MayGive, OrStays, OrGives}
use Rattle.vc_btree_maps.specs.KeepingValues.{or_stays, or_given, LeavesBy, LeavesSharedBy, GivesBy}

-- what holds of a map that is answered
pub if-ok : {X E : Type 0} (result : Result X E) {P Q : X → Type 0} → ((x : X) → P x → Q x) → IfOk result P → IfOk result Q
if-ok result f p = grind arith

-- what holds where a call is not refused
pub on-ok : {X E : Type 0} (result : Result X E) {P Q : Type 0} → (P → Q) → OnOk result P → OnOk result Q
on-ok result f p = grind arith

module _ {K V W : Type 0} (cmp : K → K → Ordering) (spelled : K → K → K)
    (xs : List (K × V)) (ys : List (K × W)) (zs : List (K × V)) {F : Type 0} (f : F) where
  module _ (g : Shared F (Bor K × (MutBor V × (Option (Bor W) × Unit {0}))) (Bool × (MutBor V × Unit {0}))) where
    left-by : (h : V → Option W → Option V) → LeavesBy g f h → (a : OuterJoinArg K V W) (r : Option V)
        → MayLeave g f a r → r ≡ of_values (first_of h) a
    left-by h one a r m = grind (arith, one m.key m.value m.other m.kept m.left m.says)

    pub leaves-left : ((h : OuterJoinArg K V W → Option V) → IsJoinBy cmp Left spelled xs ys (MayLeave g f) h zs)
        → (h : V → Option W → Option V) → LeavesBy g f h → JoinsValues cmp (in_left h) xs ys zs
    leaves-left j h one k =
        kind-joins cmp spelled xs ys zs Left (MayLeave g f) (first_of h) j (left-by h one) k
        ∙ left-kind h (value_at cmp xs k) (value_at cmp ys k)

    -- what stays at a key of this map, and what is given at a key of the other one alone
    pub leaves-outer : {G : Type 0} (o : Shared G (Bor K × (Bor W × Unit {0})) (Option V)) (i : G)
        → ((h : OuterJoinArg K V W → Option V) → IsJoinBy cmp Outer spelled xs ys (OrGives (MayLeave g f) (MayGive o i)) h zs)
        → (h : V → Option W → Option V) (e : W → Option V)
        → LeavesBy g f h → GivesBy o i e → JoinsValues cmp (or_given h e) xs ys zs
    leaves-outer o i j h e one given k =
        grind (
          arith,
          kind-joins cmp spelled xs ys zs Outer (OrGives (MayLeave g f) (MayGive o i)) (or_given h e) j
              (λ a r m. grind (arith, left-by h one, given)) k,
        )

  module _ (g : Shared F (Bor K × (MutBor V × (Bor W × Unit {0}))) (Bool × (MutBor V × Unit {0}))) where
    shared-by : (h : V → W → Option V) (l : Option V → Option W → Option V)
        → ((v : V) (w : W) → h v w ≡ l (Some v) (Some w)) → LeavesSharedBy g f h
        → (a : OuterJoinArg K V W) (r : Option V) → MayLeaveShared g f a r → r ≡ of_values l a
    shared-by h l same one a r m = grind (arith, one m.key m.value m.other m.kept m.left m.says)

    pub leaves-inner : ((h : OuterJoinArg K V W → Option V) → IsJoinBy cmp Inner spelled xs ys (MayLeaveShared g f) h zs)
        → (h : V → W → Option V) → LeavesSharedBy g f h → JoinsValues cmp (in_both h) xs ys zs
    leaves-inner j h one k =
        kind-joins cmp spelled xs ys zs Inner (MayLeaveShared g f) (both_of h) j (shared-by h (both_of h) (λ v w. refl) one) k
        ∙ both-kind h (value_at cmp xs k) (value_at cmp ys k)

    pub leaves-right : ((h : OuterJoinArg K V W → Option V) → IsJoinBy cmp Left spelled xs ys (OrStays (MayLeaveShared g f)) h zs)
        → (h : V → W → Option V) → LeavesSharedBy g f h → JoinsValues cmp (in_left (or_stays h)) xs ys zs
    leaves-right j h one k =
        kind-joins cmp spelled xs ys zs Left (OrStays (MayLeaveShared g f)) (first_of (or_stays h)) j
        (λ a r m. grind (arith, shared-by h (first_of (or_stays h)) (λ v w. refl) one)) k
        ∙ left-kind (or_stays h) (value_at cmp xs k) (value_at cmp ys k)
