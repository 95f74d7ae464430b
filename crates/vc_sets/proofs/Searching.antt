-- What a search in an ascending list finds. `side` says how an element compares with what is sought.
--     found-element, gap-element, place-is_ok        what a place tells, whatever the order is
--     none-below, gap-above        what is below and above what is sought
--     equal-turned        that two elements are equal, in either order
use Rattle.std.proofs.Common.{◌≡◌, ℕ, zero, suc, ◌<◌, List, [], ◌∷◌, length, take, Ok, Err}
use Rattle.std.proofs.Common.{drop, get_or, Some, None, is_some, Result, is_ok, refl, arith}
use Rattle.std.specs.List.{AllByRecursion, HoldsAt}
use Rattle.std.specs.Cmp.{IsTotalOrder}
use Rattle.std.specs.Ordering.{eq_by_cmp}
use Rattle.std.specs.declared.cmp.Ordering.{Ordering}
use Rattle.std.specs.declared.cmp.Ordering.TheVariants.{Less, Equal, Greater}
use Rattle.vc_merge.specs.Ascending.{element_at}
use Rattle.vc_merge.specs.Place.{IsFound, IsGap, IsPlace}
use Rattle.vc_merge.proofs.ListLemmas.{each-weaker}
use Rattle.vc_sets.specs.Borrowed.{member_by, element_by}

module _ {X : Type 0} (side : X → Ordering) where
  -- a member is an element that stands there
  member_by-is_some : (xs : List X) → member_by side xs ≡ is_some (element_by side xs)
  member_by-is_some [] = refl
  member_by-is_some (y ∷ ys) = grind (arith, member_by-is_some ys)

  found-by : (xs : List X) (i : ℕ) (d : X) → i < length xs → HoldsAt (λ y. side y ≡ Equal) xs i
      → AllByRecursion (λ y. side y ≡ Less) (take i xs) → element_by side xs ≡ Some (get_or xs i d)
  found-by [] i d h e p = grind arith
  found-by (y ∷ ys) zero d h e p = grind (arith, e d)
  found-by (y ∷ ys) (suc i) d h e p = let k : i < length ys = omega arith in grind (arith, found-by ys i d k e p.1)

  -- the element at the place
  pub found-element : (xs : List X) (i : ℕ) (d : X) → IsFound side xs i → element_by side xs ≡ Some (get_or xs i d)
  found-element xs i d f = found-by xs i d f.within f.equal f.less

  gap-by : (xs : List X) (i : ℕ) → AllByRecursion (λ y. side y ≡ Less) (take i xs)
      → AllByRecursion (λ y. side y ≡ Greater) (drop i xs) → element_by side xs ≡ None
  gap-by [] i p q = refl
  gap-by (y ∷ ys) zero p q = grind (arith, gap-by ys zero tt q.1)
  gap-by (y ∷ ys) (suc i) p q = grind (arith, gap-by ys i p.1 q)

  -- nothing stands at a gap
  pub gap-element : (xs : List X) (i : ℕ) → IsGap side xs i → element_by side xs ≡ None
  gap-element xs i g = grind (arith, gap-by)

  -- a place is found where some element is equal
  pub place-is_ok : (xs : List X) (r : Result ℕ ℕ) → IsPlace side xs r → is_ok r ≡ member_by side xs
  place-is_ok [] (Ok i) f = grind (arith, f.within)
  place-is_ok (y ∷ ys) (Ok i) f = grind (arith, member_by-is_some (y ∷ ys), found-element (y ∷ ys) i y f)
  place-is_ok xs (Err i) f = grind (arith, member_by-is_some xs, gap-element xs i f)

module _ {X : Type 0} (cmp : X → X → Ordering) (total : IsTotalOrder cmp) where
  -- nothing of what is below x stands at what is equal to x
  pub none-below : (xs : List X) (x z : X) → AllByRecursion (λ y. cmp y x ≡ Less) xs → cmp x z ≡ Equal
      → element_at cmp xs z ≡ None
  none-below [] x z p e = refl
  none-below (y ∷ ys) x z p e = grind (arith, none-below ys x z p.1 e)

  -- two elements are equal in either order
  pub equal-turned : (x y : X) → eq_by_cmp cmp x y ≡ eq_by_cmp cmp y x
  equal-turned x y = grind (arith, total.antisymm x y)

  -- what is behind a gap is above
  pub gap-above : (xs : List X) (x : X) (i : ℕ) → IsGap (λ y. cmp y x) xs i → AllByRecursion (λ y. cmp x y ≡ Less) (drop i xs)
  gap-above xs x i p = grind (arith, each-weaker)
