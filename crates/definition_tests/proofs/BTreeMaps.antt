-- Worked rows of the definitions on joins of `BTreeMap`.
use Rattle.std.specs.Prelude.{◌≡◌, ℕ, ◌+◌, Bool, true, false, List, [], ◌∷◌, Option, Some, None, refl}
use Rattle.std.proofs.Common.{sym}
use Rattle.std.specs.Option.{unwrap_or, option_copied}
use Rattle.std.specs.Ordering.{nat_cmp}
use Rattle.std.specs.declared.cmp.Ordering.{Ordering}
use denote.Ref.{Bor, MutBor}
use denote.Param.Members.{Shared}
use Rattle.vc_joins.specs.declared.question.OuterJoinArg.{OuterJoinArg}
use Rattle.vc_joins.specs.declared.question.OuterJoinArg.TheVariants.{Left, Right, Both}
use Rattle.vc_btree_maps.specs.Pairs.{pairs_left, GivesFirst}
use Rattle.vc_btree_maps.specs.declared.btree_map.AbstractBTreeMapIter.TheVariants.{BTreeMap}
use Rattle.vc_btree_maps.specs.Keeping.{at_pair, MayLeave, MayLeaveShared, MayGive, OrStays, OrGives, StayedKey}
use Rattle.vc_btree_maps.specs.Keeping.{StayedOrCloned, IsGrown}
use Rattle.definition_tests.proofs.Digits.{one, two, three, order, each, same, not_true}
use Rattle.definition_tests.proofs.Closures.{ref, ref_mut, closure}

-- ---- iterators

abbrev tens : List (ℕ × ℕ)
tens = (1, 10) ∷ (2, 20) ∷ []

-- an iterator has both pairs left
both_left : pairs_left (BTreeMap tens) ≡ tens
both_left = refl

-- a step of it shows the first pair, and leaves the other
gives_first : GivesFirst (BTreeMap tens) (Some (ref 1, ref 10)) (BTreeMap ((2, 20) ∷ []))
gives_first = refl

-- where nothing is left it gives none
gives_none : GivesFirst {K = ℕ} {V = ℕ} (BTreeMap []) None (BTreeMap [])
gives_none = (refl, refl)

-- ---- closures that decide in place

-- at 1 to 10 the question is of the left alone where the other map lacks 1, and else of both
pair_alone : at_pair {K = ℕ} {V = ℕ} {W = ℕ} 1 10 None ≡ Left 1 10
pair_alone = refl

pair_of_both : at_pair {K = ℕ} {V = ℕ} {W = ℕ} 1 10 (Some 20) ≡ Both 1 10 20
pair_of_both = refl

-- a closure that adds what the other map has, if anything, and answers true
abbrev adds : Shared (Unit {0}) (Bor ℕ × (MutBor ℕ × (Option (Bor ℕ) × Unit {0}))) (Bool × (MutBor ℕ × Unit {0}))
adds = closure (λ a. Unit {0}) (λ a r. (r.0 ≡ true) × (r.1.0.now ≡ a.1.0.now + unwrap_or (option_copied a.1.1.0) 0))

-- at 20 beside 5 it leaves 25
may_leave : MayLeave {K = ℕ} {V = ℕ} {W = ℕ} adds tt (Both 1 20 5) (Some 25)
may_leave = record {
  key = ref 1;
  value = ref_mut 20;
  other = Some (ref 5);
  shows = refl;
  kept = true;
  left =
      ref_mut 25;
  says = (refl, refl);
  stays = refl;
}

-- one that answers false leaves nothing
abbrev refuses : Shared (Unit {0}) (Bor ℕ × (MutBor ℕ × (Bor ℕ × Unit {0}))) (Bool × (MutBor ℕ × Unit {0}))
refuses = closure (λ a. Unit {0}) (λ a r. r.0 ≡ false)

may_leave_nothing : MayLeaveShared {K = ℕ} {V = ℕ} {W = ℕ} refuses tt (Both 1 20 5) None
may_leave_nothing = record {
  key = ref 1;
  value = ref_mut 20;
  other = ref 5;
  shows = refl;
  kept = false;
  left =
      ref_mut 20;
  says = refl;
  stays = refl;
}

-- a closure for keys of the other map alone, which gives the value there
abbrev gives : Shared (Unit {0}) (Bor ℕ × (Bor ℕ × Unit {0})) (Option ℕ)
gives = closure (λ a. Unit {0}) (λ a r. r ≡ Some a.1.0.now)

may_give : MayGive {K = ℕ} {V = ℕ} {W = ℕ} gives tt 3 7 (Some 7)
may_give = record { key = ref 3; other = ref 7; shows = (refl, refl); says = refl }

-- ---- what stays, where nothing else may be answered

abbrev Never : OuterJoinArg ℕ ℕ ℕ → Option ℕ → Type 0
Never a r = ⊥

-- a value at a key of this map alone stays as it is
stays : OrStays Never (Left 1 10) (Some 10)
stays = refl

-- and one of both does not
shared_is_asked : OrStays Never (Both 1 10 20) (Some 10) → ⊥
shared_is_asked h = h

-- at a key of the other map alone its value may be given
is_given : OrGives Never (λ k w r. r ≡ Some w) (Right 3 7) (Some 7)
is_given = refl

-- ---- keys, of which the first part compares, and the second is the spelling

abbrev Spelled : Type 0
Spelled = ℕ × ℕ

abbrev by_first : Spelled → Spelled → Ordering
by_first j k = nat_cmp j.0 k.0

abbrev asked : OuterJoinArg Spelled ℕ ℕ
asked = Both (1, 8) 10 20

abbrev new_one : OuterJoinArg Spelled ℕ ℕ
new_one = Right (2, 8) 20

abbrev spelled : List (Spelled × ℕ)
spelled = ((1, 7), 10) ∷ []

-- the key 1 spelled 7 stays so, though it was shown spelled 8
stayed_key : StayedKey by_first spelled asked (1, 7)
stayed_key = refl

stayed_or_old : StayedOrCloned by_first spelled same asked (1, 7)
stayed_or_old = refl

-- a new key is a clone of the one that was shown
stayed_or_new : StayedOrCloned by_first spelled same new_one (2, 8)
stayed_or_new = refl

-- ---- growth

-- 1 to 10 beside 2 to 5 grows by 2 to 5
is_grown : IsGrown {V = ℕ} {W = ℕ} order same (λ k w r. r ≡ Some w) ((two, 5) ∷ []) ((one, 10) ∷ []) ((one, 10) ∷ (two, 5) ∷ [])
is_grown = record {
  old_stay = each _ (λ e. refl) (λ e. not_true e) (λ e. not_true e) (λ e. not_true e) (λ e. not_true e);
  new_given = each _ (λ e. not_true (sym e)) (λ e. (refl, refl)) (λ e. tt) (λ e. tt) (λ e. tt);
}

-- and not by a key that the other map lacks
not_grown : IsGrown {V = ℕ} {W = ℕ} order same (λ k w r. r ≡ Some w) ((two, 5) ∷ []) ((one, 10) ∷ [])
    ((one, 10) ∷ (three, 7) ∷ []) → ⊥
not_grown h = h.new_given three refl
