-- The numbers from 1 to 5 as a type, where a fact on all of them is shown one by one.
use Rattle.std.proofs.Common.{◌≡◌, ℕ, true, false}
use Rattle.std.specs.Ordering.{nat_cmp}
use Rattle.std.specs.declared.cmp.Ordering.{Ordering}
use Rattle.std.specs.declared.cmp.Ordering.TheVariants.{Less, Equal}

-- a number from 1 to 5
pub data Digit : Type 0 where
  one two three four five : Digit

-- the number that it is
abbrev pub number : Digit → ℕ
number one = 1
number two = 2
number three = 3
number four = 4
number five = 5

-- their order
abbrev pub order : Digit → Digit → Ordering
order d e = nat_cmp (number d) (number e)

-- what holds of each of the five holds of all
pub each : (P : Digit → Type 0) → P one → P two → P three → P four → P five → (d : Digit) → P d
each P p q r s t one = p
each P p q r s t two = q
each P p q r s t three = r
each P p q r s t four = s
each P p q r s t five = t

-- a value is taken as it is
abbrev pub same : {X : Type 0} → X → X → Type 0
same x y = x ≡ y

-- no is not yes
pub not_true : {P : Type 0} → false ≡ true → P
not_true e = absurd (clash e)
  where
    clash : false ≡ true → ⊥
    clash e = cc

-- less is not equal
pub not_equal : {P : Type 0} → Less ≡ Equal → P
not_equal e = absurd (clash e)
  where
    clash : Less ≡ Equal → ⊥
    clash e = cc
