-- An ascending list with an element removed.
use Rattle.std.proofs.Common.{◌≡◌, ℕ, zero, suc, ◌<◌, Bool, not, cond, ◌&&◌, List, [], ◌∷◌, ◌++◌, length}
use Rattle.std.proofs.Common.{take, drop, get_or, None, arith}
use Rattle.std.specs.List.{AllByRecursion}
use Rattle.std.specs.List.Sorted.{IsStrictlySortedBy}
use Rattle.std.specs.Cmp.{IsTotalOrder, alike_right}
use Rattle.std.specs.Ordering.{eq_by_cmp}
use Rattle.std.specs.declared.cmp.Ordering.{Ordering}
use Rattle.std.specs.declared.cmp.Ordering.TheVariants.{Less, Equal}
use Rattle.vc_merge.specs.Ascending.{Ascends, member, element_at}
use Rattle.vc_merge.proofs.ListLemmas.{each-at}
use Rattle.vc_merge.proofs.Members.{member-is_some, element_at-none, equal-alike}

module _ {X : Type 0} (P : X → Type 0) where
  -- what holds of each element holds of those that are left without one
  each-without : (xs : List X) (i : ℕ) → AllByRecursion P xs → AllByRecursion P (take i xs ++ drop (suc i) xs)
  each-without [] zero p = tt
  each-without [] (suc i) p = tt
  each-without (x ∷ xs) zero p = p.1
  each-without (x ∷ xs) (suc i) p = (p.0, each-without xs i p.1)

module _ {X : Type 0} (cmp : X → X → Ordering) where
  -- what is left without one element ascends
  pub ascends-without : (xs : List X) (i : ℕ) → Ascends cmp xs → Ascends cmp (take i xs ++ drop (suc i) xs)
  unfolding IsStrictlySortedBy
  ascends-without [] zero p = tt
  ascends-without [] (suc i) p = tt
  ascends-without (x ∷ xs) zero p = p.1
  ascends-without (x ∷ xs) (suc i) p = grind (arith, ascends-without xs i p.1, each-without)

  module _ (total : IsTotalOrder cmp) where
    -- ---- an equal element is taken out

    -- what stands where, without the element that is equal to x
    pub element_at-without : (xs : List X) (x : X) (i : ℕ) → i < length xs → ((d : X) → cmp (get_or xs i d) x ≡ Equal)
        → Ascends cmp xs → (z : X)
        → element_at cmp (take i xs ++ drop (suc i) xs) z ≡ cond (eq_by_cmp cmp x z) None (element_at cmp xs z)
    unfolding IsStrictlySortedBy
    element_at-without [] x i h e p z = grind arith
    element_at-without (y ∷ ys) x zero h e p z = grind (arith, element_at-none, equal-alike cmp total y x z (e x))
    element_at-without (y ∷ ys) x (suc i) h e p z =
        let k : i < length ys = omega arith in
        let a = alike_right total (get_or ys i x) x y (e x) in
        let b = each-at (λ z. cmp y z ≡ Less) ys i x k p.0 in grind (arith, a, b, element_at-without ys x i k e p.1 z)

    -- ---- members follow from what is kept

    -- the members, once some were taken out
    pub members-taken : (xs ys : List X) (gone : X → Bool) → ((z : X)
        → element_at cmp ys z ≡ cond (gone z) None (element_at cmp xs z)) → (z : X)
        → member cmp ys z ≡ (not (gone z) && member cmp xs z)
    members-taken xs ys gone h z = grind (arith, member-is_some, h z)
