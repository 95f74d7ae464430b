-- Formulas of two tests.
use Rattle.std.proofs.Common.{◌≡◌, Bool, true, false, not, ◌||◌, ◌&&◌, IsTrue, refl, sym, ap, ◌∙◌}
use Rattle.std.proofs.Math.Bool.{not-not}
use mathlib.Core.Bool.{true≢false}
use Rattle.vc_sets.specs.SetOf.{and_not, exactly_one}
use Rattle.vc_total_sets.specs.TotalOf.{listed_by}

-- false is not true
pub not_true : false ≡ true → ⊥
not_true e = true≢false (sym e)

-- what is not so is false, and the other way round
pub not-so : (p : Bool) → (IsTrue p → ⊥) → IsTrue (not p)
not-so true h = absurd (h refl)
not-so false h = refl

pub so-not : (p : Bool) → IsTrue (not p) → IsTrue p → ⊥
so-not true e h = not_true e
so-not false e h = not_true h

-- what is not false is true
pub so-if_not_not : (p : Bool) → (IsTrue (not p) → ⊥) → IsTrue p
so-if_not_not true h = refl
so-if_not_not false h = absurd (h refl)

-- nothing of the first is left without the second, where the second has it
pub none-left : (p q : Bool) → (IsTrue p → IsTrue q) → and_not p q ≡ false
none-left true q h = ap not (h refl)
none-left false q h = refl

pub had-by_second : (p q : Bool) → and_not p q ≡ false → IsTrue p → IsTrue q
had-by_second true true e h = refl
had-by_second true false e h = absurd (true≢false e)
had-by_second false q e h = absurd (not_true h)

-- not both are so
pub none-shared : (p q : Bool) → (IsTrue p → IsTrue q → ⊥) → (p && q) ≡ false
none-shared true true h = absurd (h refl refl)
none-shared true false h = refl
none-shared false q h = refl

pub not-both : (p q : Bool) → (p && q) ≡ false → IsTrue p → IsTrue q → ⊥
not-both true q e h k = not_true (sym e ∙ k)
not-both false q e h k = not_true h

-- ---- complements

-- a set turned has what it did not have
turned : (p x : Bool) → exactly_one (not p) x ≡ not (exactly_one p x)
turned true x = sym (not-not x)
turned false x = refl

-- two sets turned differ where they differed
both-turned : (p q : Bool) → exactly_one (not p) (not q) ≡ exactly_one p q
both-turned true q = refl
both-turned false q = not-not q

-- not both is not the one or not the other
pub or-of_not : (p q : Bool) → (not p || not q) ≡ not (p && q)
or-of_not true q = refl
or-of_not false q = refl

pub and-of_not : (p q : Bool) → (not p && not q) ≡ not (p || q)
and-of_not true q = refl
and-of_not false q = refl

-- a formula of complements, where it is the complement of another one
turned-listed : (f h : Bool → Bool → Bool) → ((p q : Bool) → h (not p) (not q) ≡ not (f p q)) → (p q x y : Bool)
    → listed_by h (not p) (not q) x y ≡ listed_by f p q x y
turned-listed f h e p q x y =
    rw (turned p x, turned q y, e p q, e (exactly_one p x) (exactly_one q y))
    (both-turned (f p q) (f (exactly_one p x) (exactly_one q y)))

pub or-turned : (p q x y : Bool) → listed_by ◌||◌ (not p) (not q) x y ≡ listed_by ◌&&◌ p q x y
or-turned = turned-listed ◌&&◌ ◌||◌ or-of_not

pub and-turned : (p q x y : Bool) → listed_by ◌&&◌ (not p) (not q) x y ≡ listed_by ◌||◌ p q x y
and-turned = turned-listed ◌||◌ ◌&&◌ and-of_not

-- an operation has at a value what its formula says
pub has-listed : (r s : Bool) → exactly_one r (exactly_one r s) ≡ s
has-listed true s = not-not s
has-listed false s = refl

-- ---- swapped sides

pub and-swapped : (p q : Bool) → (p && q) ≡ (q && p)
and-swapped true true = refl
and-swapped true false = refl
and-swapped false true = refl
and-swapped false false = refl

pub or-swapped : (p q : Bool) → (p || q) ≡ (q || p)
or-swapped true true = refl
or-swapped true false = refl
or-swapped false true = refl
or-swapped false false = refl
