-- What the call of an event takes off the fronts of the two lists, where it answers true.
use Rattle.std.specs.Prelude.{◌≡◌, ℕ, true, List, drop, IfOk}
use Rattle.std.specs.declared.cmp.Ordering.{Ordering}
use Rattle.std.specs.declared.cmp.Ordering.TheVariants.{Less, Equal, Greater}
use Rattle.vc_merge.specs.Chain.{Answer}
use Rattle.vc_merge.specs.declared.plan.Side.{Side}
use Rattle.vc_merge.specs.declared.plan.Side.TheVariants.{Left, Right}

module _ {M A B : Type 0} (left : M → List A) (right : M → List B) (ready : M → Type 0) where
  -- n elements off the left list, and the state can continue
  abbrev pub TakesLeft : ℕ → M → Answer → M → Type 0
  TakesLeft n s answer t = IfOk answer (λ go_on. go_on ≡ true → (left t ≡ drop n (left s)) × (right t ≡ right s) × ready t)

  -- n elements off the right list
  abbrev pub TakesRight : ℕ → M → Answer → M → Type 0
  TakesRight n s answer t = IfOk answer (λ go_on. go_on ≡ true → (left t ≡ left s) × (right t ≡ drop n (right s)) × ready t)

  -- n elements off the list on a side
  abbrev pub TakesSide : Side → ℕ → M → Answer → M → Type 0
  TakesSide Left n s answer t = TakesLeft n s answer t
  TakesSide Right n s answer t = TakesRight n s answer t

  -- the first element of each list
  abbrev pub TakesBoth : M → Answer → M → Type 0
  TakesBoth s answer t = IfOk answer (λ go_on. go_on ≡ true → (left t ≡ drop 1 (left s)) × (right t ≡ drop 1 (right s)) × ready t)

  -- of the first elements of both lists, which compare as given: the lesser one, or both
  abbrev pub TakesLesser : Ordering → M → Answer → M → Type 0
  TakesLesser Less s answer t = TakesLeft 1 s answer t
  TakesLesser Greater s answer t = TakesRight 1 s answer t
  TakesLesser Equal s answer t = TakesBoth s answer t
