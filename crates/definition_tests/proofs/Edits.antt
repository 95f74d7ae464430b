-- Worked rows of the definitions on changes of trees in place.
use Rattle.std.specs.Prelude.{◌≡◌, ℕ, suc, ◌+◌, ◌==◌, ◌||◌, nat_le, Bool, true, Option, Some, None, IsTrue, refl}
use denote.Ref.{Bor, MutBor}
use denote.Param.Members.{Shared}
use Rattle.vc_tree_edits.specs.Editing.{MayLeave, CanLeave, KeptThen, CanMeet, OrStays}
use Rattle.vc_tree_model.specs.Asking.{MayJudge, CanJudge}
use Rattle.vc_tree_removal.specs.Changing.{MayWrite, CanWrite, CanChange, ComesOf}
use Rattle.definition_tests.proofs.Digits.{same, not_true}
use Rattle.definition_tests.proofs.Closures.{ref, ref_mut, closure}

-- a closure that adds and answers true, and may be called where the sum is at most 255
abbrev adds : Shared (Unit {0}) (MutBor ℕ × (Bor ℕ × Unit {0})) (Bool × (MutBor ℕ × Unit {0}))
adds = closure (λ v. IsTrue (nat_le (v.0.now + v.1.0.now) 255)) (λ v z. (z.0 ≡ true) × (z.1.0.now ≡ v.0.now + v.1.0.now))

-- 2 and 5 leave 7
may_leave : MayLeave adds tt 2 5 (Some 7)
may_leave = record {
  given = ref_mut 2;
  other = ref 5;
  shows = (refl, refl);
  stays = true;
  left = ref_mut 7;
  answers = (refl, refl);
  leaves = refl;
}

can_leave : CanLeave adds tt 2 5
can_leave p q e h = rw (e, h) refl

cannot_leave : CanLeave adds tt 200 100 → ⊥
cannot_leave h = not_true (h (ref_mut 200) (ref 100) refl refl)

-- what is left of a sum
abbrev Sums : ℕ → ℕ → Option ℕ → Type 0
Sums v w z = z ≡ Some (v + w)

-- where the next number is kept of a value, of 2 and 5 comes 8
kept_then : KeptThen {V = ℕ} {W = ℕ} (λ v kept. kept ≡ suc v) Sums 2 5 (Some 8)
kept_then = (3, refl, refl)

-- at a key of one tree alone nothing is owed
can_meet : CanMeet {V = ℕ} {W = ℕ} same (λ v w. ⊥) (Some 2) None
can_meet = tt

-- at a key of both the call is owed
cannot_meet : CanMeet {V = ℕ} {W = ℕ} same (λ v w. ⊥) (Some 2) (Some 5) → ⊥
cannot_meet h = h 2 refl

-- adding ab to 5 to a to 1, ab to 2
or_stays : OrStays same Sums 2 (Some 5) (Some 7) × OrStays same Sums 1 None (Some 1)
or_stays = (refl, refl)

-- whether a number below 6 is even
abbrev is_even : ℕ → Bool
is_even n = n == 0 || n == 2 || n == 4

abbrev judges : Shared (Unit {0}) (Bor ℕ × Unit {0}) Bool
judges = closure (λ v. Unit {0}) (λ v z. z ≡ is_even v.0.now)

-- at 2 the answer is true
may_judge : MayJudge judges tt 2 true
may_judge = record { shown = ref 2; shows = refl; answers = refl }

-- it may be asked of any number
can_judge : (n : ℕ) → CanJudge judges tt (Some n)
can_judge n q e = tt

-- a closure that adds one to the value and answers what it was, and may be called below 255
abbrev counts : Shared (Unit {0}) (MutBor ℕ × Unit {0}) (ℕ × (MutBor ℕ × Unit {0}))
counts = closure (λ v. IsTrue (nat_le (suc v.0.now) 255)) (λ v z. (z.0 ≡ v.0.now) × (z.1.0.now ≡ suc v.0.now))

-- at 2 it leaves 3, and answers 2
may_write : MayWrite counts tt 2 3 2
may_write = record { given = ref_mut 2; shows = refl; left = ref_mut 3; answers = (refl, refl); leaves = refl }

can_write : CanWrite counts tt 2
can_write p e = rw e refl

cannot_write : CanWrite counts tt 255 → ⊥
cannot_write h = not_true (h (ref_mut 255) refl)

-- at a key that is not bound nothing is owed
can_change : CanChange {V = ℕ} same (λ v. ⊥) None
can_change = tt

-- at one that is bound the call is
cannot_change : CanChange {V = ℕ} same (λ v. ⊥) (Some 2) → ⊥
cannot_change h = h 2 refl

-- where the next number is kept of a value, of 2 comes 4 with the answer 3
comes_of : ComesOf {V = ℕ} (λ v kept. kept ≡ suc v) {R = ℕ} (λ v z r. (z ≡ suc v) × (r ≡ v)) (Some 2) 4 3
comes_of = (3, refl, (refl, refl))
