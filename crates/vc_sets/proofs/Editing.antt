-- An ascending list with an element inserted, replaced or removed.
use Rattle.std.proofs.Common.{◌≡◌, ℕ, zero, suc, ◌<◌, Bool, true, false, not, cond, ◌||◌, List, [], ◌∷◌, ◌++◌, length}
use Rattle.std.proofs.Common.{take, drop, get_or, insert, set, Some, arith}
use Rattle.std.proofs.Math.ListN.{take-append-drop}
use Rattle.std.specs.List.{AllByRecursion}
use Rattle.std.specs.List.Sorted.{IsStrictlySortedBy}
use Rattle.std.specs.Cmp.{IsTotalOrder, alike_right}
use Rattle.std.specs.Option.{option_or}
use Rattle.std.specs.Ordering.{eq_by_cmp}
use Rattle.std.specs.declared.cmp.Ordering.{Ordering}
use Rattle.std.specs.declared.cmp.Ordering.TheVariants.{Less, Equal}
use Rattle.vc_merge.specs.Ascending.{Ascends, member, element_at}
use Rattle.vc_merge.proofs.ListLemmas.{each-weaker, each-at, ascends-append}
use Rattle.vc_merge.specs.Place.{IsGap}
use Rattle.vc_merge.proofs.Members.{member-is_some, element_at-append, equal-from_is_eq}
use Rattle.vc_sets.proofs.Searching.{none-below, gap-above, gap-element}

-- the element at i is equal to x
abbrev pub StandsAt : {X : Type 0} → (X → X → Ordering) → List X → X → ℕ → Type 0
StandsAt {X} cmp xs x i = (i < length xs) × ((d : X) → cmp (get_or xs i d) x ≡ Equal)

module _ {X : Type 0} where
  each-front : (P : X → Type 0) (xs ys : List X) → AllByRecursion P (xs ++ ys) → AllByRecursion P xs
  each-front P [] ys p = tt
  each-front P (x ∷ xs) ys p = (p.0, each-front P xs ys p.1)

  each-append : (P : X → Type 0) (xs ys : List X) → AllByRecursion P xs → AllByRecursion P ys → AllByRecursion P (xs ++ ys)
  each-append P [] ys p q = q
  each-append P (x ∷ xs) ys p q = (p.0, each-append P xs ys p.1 q)

  each-set : (P : X → Type 0) (xs : List X) (i : ℕ) (x : X) → P x → AllByRecursion P xs → AllByRecursion P (set xs i x)
  each-set P [] i x h p = tt
  each-set P (y ∷ ys) zero x h p = (h, p.1)
  each-set P (y ∷ ys) (suc i) x h p = (p.0, each-set P ys i x h p.1)

module _ {X : Type 0} (cmp : X → X → Ordering) (total : IsTotalOrder cmp) where
  pub ascends-front : (xs ys : List X) → Ascends cmp (xs ++ ys) → Ascends cmp xs
  unfolding IsStrictlySortedBy
  ascends-front [] ys p = tt
  ascends-front (x ∷ xs) ys p = grind (arith, ascends-front xs ys p.1, each-front)

  ascends-between : (xs : List X) (x : X) (ys : List X) → Ascends cmp xs → AllByRecursion (λ y. cmp y x ≡ Less) xs
      → Ascends cmp ys → AllByRecursion (λ y. cmp x y ≡ Less) ys → Ascends cmp (xs ++ x ∷ ys)
  unfolding IsStrictlySortedBy
  ascends-between [] x ys p q r s = (s, r)
  ascends-between (a ∷ xs) x ys p q r s = grind (arith, ascends-between xs x ys p.1 q.1 r s, each-append, each-weaker)

  -- ---- a new element

  pub ascends-insert : (xs ys : List X) (x : X) (i : ℕ) → IsGap (λ y. cmp y x) xs i → Ascends cmp xs → ys
      ≡ insert xs i x → Ascends cmp ys
  ascends-insert xs ys x i p q e =
      let parts : Ascends cmp (take i xs ++ drop i xs) = rw take-append-drop q in
      rw e (ascends-between (take i xs) x (drop i xs) (ascends-front (take i xs) (drop i xs) parts) p.less
      (ascends-append cmp (take i xs) (drop i xs) parts) (gap-above cmp total xs x i p))

  inserted-by : (b : Bool) (xs : List X) (x z : X) (i : ℕ) → AllByRecursion (λ y. cmp y x ≡ Less) (take i xs)
      → eq_by_cmp cmp x z ≡ b
      → option_or (element_at cmp (take i xs) z) (cond b (Some x) (element_at cmp (drop i xs) z))
      ≡ cond b (Some x) (element_at cmp xs z)
  inserted-by true xs x z i p e = grind (arith, none-below, equal-from_is_eq)
  inserted-by false xs x z i p e = grind (arith, element_at-append cmp (take i xs) (drop i xs) z, take-append-drop i xs)

  pub element_at-insert : (xs ys : List X) (x : X) (i : ℕ) → IsGap (λ y. cmp y x) xs i → ys ≡ insert xs i x → (z : X)
      → element_at cmp ys z ≡ cond (eq_by_cmp cmp x z) (Some x) (element_at cmp xs z)
  element_at-insert xs ys x i p e z = grind (arith, element_at-append, inserted-by)

  -- ---- a new element in the place of an equal one

  pub ascends-set : (xs : List X) (x : X) (i : ℕ) → StandsAt cmp xs x i → Ascends cmp xs → Ascends cmp (set xs i x)
  unfolding IsStrictlySortedBy
  ascends-set [] x i h p = tt
  ascends-set (y ∷ ys) x zero h p =
      grind (arith, h.1 x, each-weaker (λ z. cmp y z ≡ Less) (λ z. cmp x z ≡ Less) (λ z k. grind (arith, total.congr y x z (h.1 x))) ys p.0)
  ascends-set (y ∷ ys) x (suc i) h p =
      let k : i < length ys = omega (arith, h.0) in
      let a = alike_right total (get_or ys i x) x y (h.1 x) in
      let b = each-at (λ z. cmp y z ≡ Less) ys i x k p.0 in
      grind (arith, each-set (λ z. cmp y z ≡ Less) ys i x, a, b, ascends-set ys x i (k, h.1) p.1)

  pub element_at-set : (xs : List X) (x : X) (i : ℕ) → StandsAt cmp xs x i → Ascends cmp xs → (z : X)
      → element_at cmp (set xs i x) z ≡ cond (eq_by_cmp cmp x z) (Some x) (element_at cmp xs z)
  unfolding IsStrictlySortedBy
  element_at-set [] x i h p z = absurd (omega (arith, h.0))
  element_at-set (y ∷ ys) x zero h p z = grind (arith, h.1 x)
  element_at-set (y ∷ ys) x (suc i) h p z =
      let k : i < length ys = omega (arith, h.0) in
      let a = alike_right total (get_or ys i x) x y (h.1 x) in
      let b = each-at (λ z. cmp y z ≡ Less) ys i x k p.0 in grind (arith, a, b, element_at-set ys x i (k, h.1) p.1 z)

  -- ---- members follow from what is kept

  pub members-put : (xs ys : List X) (x : X) → ((z : X)
      → element_at cmp ys z ≡ cond (eq_by_cmp cmp x z) (Some x) (element_at cmp xs z)) → (z : X)
      → member cmp ys z ≡ (eq_by_cmp cmp x z || member cmp xs z)
  members-put xs ys x h z = grind (arith, member-is_some, h z)

  -- ---- the answer

  pub new-answer : (xs : List X) (x : X) (i : ℕ) → IsGap (λ y. cmp y x) xs i → true ≡ not (member cmp xs x)
  new-answer xs x i p = grind (arith, member-is_some cmp xs x, gap-element (λ y. cmp y x) xs i p)
