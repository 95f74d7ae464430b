-- A list of numbers ascends where each number is less than the next.
use Rattle.std.proofs.Common.{arith, ◌≡◌, refl, sym, ℕ, ◌<◌, ◌↔◌, Bool, true, false, ◌&&◌, nat_lt, IsTrue, List, [], ◌∷◌}
use Rattle.std.proofs.lemmas.Bool.{ltb-true, lt-ltb, true≢false}
use Rattle.std.specs.Ordering.{nat_cmp}
use Rattle.std.specs.Cmp.{nat_cmp_is, ranked}
use Rattle.std.specs.List.{AllByRecursion}
use Rattle.std.specs.List.Sorted.{IsStrictlySortedBy}
use Rattle.std.specs.declared.cmp.Ordering.TheVariants.{Less}
use Rattle.vec_collections.specs.Ascending.{Ascends}
use Rattle.vecbench_lines.specs.Judged.{is_ascending}
use Rattle.vecbench_lines.proofs.Cutting.{test-fails}

-- what stands on both sides of an `and` that holds
pub both-hold : (a b : Bool) → (a && b) ≡ true → (a ≡ true) × (b ≡ true)
both-hold true b h = (refl, h)
both-hold false b h = absurd (true≢false (sym h))

-- an `and` holds where both sides do
pub and-holds : (a b : Bool) → a ≡ true → b ≡ true → (a && b) ≡ true
and-holds true b p q = q
and-holds false b p q = p

-- what is below y, which is below each of these, is below each of them
pub below-all : (x y : ℕ) (zs : List ℕ) → x < y → AllByRecursion (λ z. nat_cmp y z ≡ Less) zs
    → AllByRecursion (λ z. nat_cmp x z ≡ Less) zs
below-all x y [] below all = all
below-all x y (z ∷ zs) below all =
    let less : y < z = ranked y z Less (sym all.0) in
    (sym (nat_cmp_is x z Less (omega (arith, below, less))), below-all x y zs below all.1)

-- a list that passes the test ascends
pub Ascends-from_test : (xs : List ℕ) → is_ascending xs ≡ true → Ascends nat_cmp xs
unfolding IsStrictlySortedBy
Ascends-from_test [] is = tt
Ascends-from_test (x ∷ []) is = (tt, tt)
Ascends-from_test (x ∷ y ∷ ys) is =
    let both : (nat_lt x y ≡ true) × (is_ascending (y ∷ ys) ≡ true) = both-hold (nat_lt x y) (is_ascending (y ∷ ys)) is in
    let below : x < y = ltb-true x y both.0 in
    let rest : Ascends nat_cmp (y ∷ ys) = Ascends-from_test (y ∷ ys) both.1 in
    ((sym (nat_cmp_is x y Less below), below-all x y ys below rest.0), rest)

-- and one that ascends passes it
pub test-from_Ascends : (xs : List ℕ) → Ascends nat_cmp xs → is_ascending xs ≡ true
unfolding IsStrictlySortedBy
test-from_Ascends [] ascends = refl
test-from_Ascends (x ∷ []) ascends = refl
test-from_Ascends (x ∷ y ∷ ys) ascends =
    and-holds (nat_lt x y) (is_ascending (y ∷ ys)) (lt-ltb x y (ranked x y Less (sym ascends.0.0)))
    (test-from_Ascends (y ∷ ys) ascends.1)

-- what answers whether a list ascends gives the test's answer
pub is_ascending-answer : (xs : List ℕ) (answer : Bool) → (IsTrue answer ↔ Ascends nat_cmp xs) → is_ascending xs ≡ answer
is_ascending-answer xs true tells = test-from_Ascends xs (tells.0 refl)
is_ascending-answer xs false tells = test-fails (is_ascending xs) (λ is. true≢false (sym (tells.1 (Ascends-from_test xs is))))
