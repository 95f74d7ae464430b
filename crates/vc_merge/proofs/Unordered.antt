-- A list in any order that is sorted stably and loses what repeats: the first element with a key is the one that is kept.
--     find-stable        a stable sort does not change what is found first
--     find-dedup        nor does to drop what repeats
--     found-unordered        both, of a list with keys
--     if-made        what holds of a list holds of the list that is made of it
use Rattle.std.proofs.Common.{◌≡◌, Bool, true, List, [], ◌∷◌, Option, Some, None, Result}
use Rattle.std.proofs.Common.{IfOk, refl, ◌∙◌, arith}
use Rattle.std.specs.Cmp.{IsTotalOrder}
use Rattle.std.specs.List.{dedup, dedup_from, filter, find}
use Rattle.std.specs.List.Sorted.{IsStableBy, ties}
use Rattle.std.specs.Ordering.{is_eq, is_lt}
use Rattle.std.specs.declared.cmp.Ordering.{Ordering}

module _ {X : Type 0} (p : X → Bool) where
  -- what is found passes
  found-passes : (xs : List X) (e : X) → find p xs ≡ Some e → p e ≡ true
  found-passes [] e h = cc
  found-passes (x ∷ xs) e h = grind (arith, found-passes xs e)

  -- it is the first that passes
  find-filter : (xs : List X) → find p xs ≡ find (λ y. true) (filter p xs)
  find-filter [] = refl
  find-filter (x ∷ xs) = grind (arith, find-filter xs)

  -- where the elements that pass stand in the same order, the same one is found
  pub find-stable : (xs ys : List X) → ((e : X) → p e ≡ true → filter p ys ≡ filter p xs) → find p ys ≡ find p xs
  find-stable xs ys same = by (find p ys) (find p xs) refl refl
    where
      by : (o q : Option X) → find p ys ≡ o → find p xs ≡ q → find p ys ≡ find p xs
      by None None e f = grind arith
      by None (Some x) e f = grind (arith, find-filter, same x, found-passes xs x)
      by (Some y) q e f = grind (arith, find-filter, same y, found-passes ys y)

  module _ (same : X → X → Bool) (respects : (x y : X) → same x y ≡ true → p x ≡ p y) where
    find-dedup_from : (k : X) (xs : List X) → find p (dedup_from same k xs) ≡ find p (k ∷ xs)
    find-dedup_from k [] = refl
    find-dedup_from k (x ∷ xs) = grind (arith, find-dedup_from k xs, find-dedup_from x xs)

    pub find-dedup : (xs : List X) → find p (dedup same xs) ≡ find p xs
    find-dedup xs = grind (arith, find-dedup_from)

module _ {K X : Type 0} (cmp : K → K → Ordering) (total : IsTotalOrder cmp) (key : X → K) where
  module _ (p : X → Bool) (k : K) (tests : (y : X) → p y ≡ is_eq (cmp (key y) k)) where
    alike : (e : X) → p e ≡ true → (l : List X) → filter p l ≡ filter (ties (λ x y. is_lt (cmp (key x) (key y))) e) l
    alike e h [] = refl
    alike e h (y ∷ l) = grind (arith, alike e h l)

    -- of a list that is sorted stably by its keys, once what repeats is dropped
    pub found-unordered : (same : X → X → Bool) → ((x y : X) → same x y ≡ is_eq (cmp (key x) (key y))) → (xs ys : List X)
        → IsStableBy (λ x y. is_lt (cmp (key x) (key y))) xs ys → find p (dedup same ys) ≡ find p xs
    found-unordered same matches xs ys stable =
        find-dedup p same (λ x y h. grind (arith, tests, matches x y)) ys
        ∙ find-stable p xs ys (λ e h. grind (arith, alike e h, stable e))

pub if-made : {X E : Type 0} (P : List X → Type 0) (list : List X) → P list → (r : Result (List X) E)
    → IfOk r (λ made. made ≡ list) → IfOk r P
if-made P list p r e = grind arith
