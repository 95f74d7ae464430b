-- What a look-up by a borrowed form finds. `side` says how an element compares with the form.
--     member-equal, element-equal        an element that is equal to the form is found as the form is
--     ordered        an ascending list is ordered round a form
--     element_at-without_form, element_at-no_form        an element removed
use Rattle.std.proofs.Common.{◌≡◌, ℕ, zero, suc, ◌<◌, Bool, true, false, cond, List, [], ◌∷◌, ◌++◌, length}
use Rattle.std.proofs.Common.{take, drop, get_or, ◌⊎◌, inl, inr, None, refl, arith}
use Rattle.std.specs.List.{AllByRecursion}
use Rattle.std.specs.List.Sorted.{IsStrictlySortedBy}
use Rattle.std.specs.Cmp.{IsTotalOrder, tied_itself}
use Rattle.std.specs.Ordering.{is_eq, is_lt}
use Rattle.std.specs.declared.cmp.Ordering.{Ordering}
use Rattle.std.specs.declared.cmp.Ordering.TheVariants.{Less, Equal, Greater}
use Rattle.vc_merge.specs.Ascending.{Ascends, member, element_at}
use Rattle.vc_merge.specs.Place.{IsFound, IsGap, IsOrdered}
use Rattle.vc_merge.proofs.Members.{equal-from_is_eq}
use Rattle.vc_sets.specs.Borrowed.{member_by, element_by}
use Rattle.vc_sets.proofs.Searching.{gap-element}
use Rattle.vc_sets.proofs.Removing.{element_at-without}

-- an element of a list, which is the same whatever is read beyond its end
pub at-place : {X : Type 0} (xs : List X) (i : ℕ) → i < length xs → (x : X) × ((d : X) → get_or xs i d ≡ x)
at-place [] i h = grind arith
at-place (x ∷ xs) zero h = (x, λ d. refl)
at-place (x ∷ xs) (suc i) h = let k : i < length xs = omega arith in at-place xs i k

module _ {K : Type 0} (cmp : K → K → Ordering) (side : K → Ordering)
    (equal : (x y : K) → side x ≡ Equal → side y ≡ cmp y x) where
  -- elements stand to the form as to an element that is equal to it
  pub side-equal : (x : K) → side x ≡ Equal → side ≡ (λ y. cmp y x)
  side-equal x e = grind arith

  -- that element is found as the form is
  pub member-equal : (xs : List K) (x : K) → side x ≡ Equal → member_by side xs ≡ member cmp xs x
  member-equal xs x e = grind arith

  pub element-equal : (xs : List K) (x : K) → side x ≡ Equal → element_by side xs ≡ element_at cmp xs x
  element-equal xs x e = grind arith

  -- ---- a list is ordered round a form

  module _ (total : IsTotalOrder cmp) (behind : (x y : K) → side x ≡ Greater → cmp x y ≡ Less → side y ≡ Greater) where
    module _ {X : Type 0} (key : X → K) where
      all-behind : (x : X) → is_lt (side (key x)) ≡ false → (ys : List X)
          → AllByRecursion (λ y. cmp (key x) (key y) ≡ Less) ys → AllByRecursion (λ y. side (key y) ≡ Greater) ys
      all-behind x f [] p = tt
      all-behind x f (y ∷ ys) p = grind (arith, all-behind x f ys p.1, equal, behind)

      beside : (x : X) (ys : List X) (b : Bool) → is_lt (side (key x)) ≡ b
          → AllByRecursion (λ y. cmp (key x) (key y) ≡ Less) ys
          → (side (key x) ≡ Less) ⊎ AllByRecursion (λ y. side (key y) ≡ Greater) ys
      beside x ys true e p = inl (grind arith)
      beside x ys false e p = inr (all-behind x e ys p)

      -- a list that ascends by its keys is ordered round a form of keys
      pub ordered : (xs : List X) → Ascends (λ x y. cmp (key x) (key y)) xs → IsOrdered (λ x. side (key x)) xs
      unfolding IsStrictlySortedBy
      ordered [] p = tt
      ordered (x ∷ xs) p = (beside x xs _ refl p.0, ordered xs p.1)

  -- ---- an element taken out

  module _ (total : IsTotalOrder cmp) where
    -- what stands where, without the element that is equal to the form
    pub element_at-without_form : (xs : List K) (i : ℕ) → IsFound side xs i → Ascends cmp xs → (z : K)
        → element_at cmp (take i xs ++ drop (suc i) xs) z ≡ cond (is_eq (side z)) None (element_at cmp xs z)
    element_at-without_form xs i f p z =
        let r = at-place xs i f.within in
        grind (arith, element_at-without cmp total xs r.0 i f.within, r.1, tied_itself total r.0, f.equal r.0, equal r.0 z)

  -- what stands where, if no element is equal to the form
  pub element_at-no_form : (xs : List K) (i : ℕ) → IsGap side xs i → (z : K)
      → element_at cmp xs z ≡ cond (is_eq (side z)) None (element_at cmp xs z)
  element_at-no_form xs i g z = grind (arith, element-equal xs z, equal-from_is_eq, gap-element side xs i g)
