-- What a search for the first element of one list in the other says of both lists, in either direction, and what it leaves.
--     place-left        for the first left element in the right list
--     place-right        for the first right element in the left list: the same under the order that has its sides swapped
use Rattle.std.proofs.Common.{◌≡◌, ℕ, zero, suc, ◌+◌, ◌<◌, ◌≤◌, List, [], ◌∷◌, length, drop, get_or}
use Rattle.std.proofs.Common.{length-drop, IfOk, Bool, true, false, Result, Ok, Err, is_ok, ◌⊎◌, inl, inr, ap, ◌∙◌, arith}
use Rattle.std.proofs.lemmas.Cmp.{on_total}
use Rattle.std.specs.Cmp.{IsTotalOrder}
use Rattle.std.specs.List.{AllByRecursion, HoldsAt}
use Rattle.std.specs.List.Sorted.{IsStrictlySortedBy}
use Rattle.std.specs.Ordering.{ordering_reverse}
use Rattle.std.specs.declared.cmp.Ordering.{Ordering}
use Rattle.std.specs.declared.cmp.Ordering.TheVariants.{Less, Equal, Greater}
use Rattle.vc_merge.specs.Chain.{Answer}
use Rattle.vc_merge.specs.Place.{IsPlace}
use Rattle.vc_merge.specs.Progress.{opposite, RightBelow, HeadsCompare, IsFirst, IsFirstPlace}
use Rattle.vc_merge.specs.Place.{place_of}
use Rattle.vc_merge.specs.Plan.{fewer, more}
use Rattle.vc_merge.specs.Script.{BothAscend}
use Rattle.vc_merge.specs.Takes.{TakesBoth, TakesSide}
use Rattle.vc_merge.specs.declared.plan.Side.{Side}
use Rattle.vc_merge.specs.declared.plan.Side.TheVariants.{Left, Right}
use Rattle.vc_merge.proofs.ListLemmas.{each-weaker}
use Rattle.vc_merge.proofs.Scripts.{below-lefts}

module _ {A B : Type 0} (order : A ⊎ B → A ⊎ B → Ordering) (total : IsTotalOrder order) where
  -- the right elements before the place are below the left list
  lower : (x : A) (ls : List A) (ys : List B) → AllByRecursion (λ z. order (inl x) (inl z) ≡ Less) ls
      → AllByRecursion (λ y. order (inr y) (inl x) ≡ Less) ys → RightBelow order ys (x ∷ ls)
  lower x ls ys p q = each-weaker (λ y. order (inr y) (inl x) ≡ Less)
      (λ y. AllByRecursion (λ z. order (inr y) (inl z) ≡ Less) (x ∷ ls)) (λ y h. below-lefts order total x y ls h p) ys q

  heads-equal : (x : A) (ls : List A) (rs : List B) (i : ℕ) → i < length rs
      → HoldsAt (λ y. order (inr y) (inl x) ≡ Equal) rs i → HeadsCompare order (x ∷ ls) (drop i rs) Equal
  heads-equal x ls [] i h e = grind arith
  heads-equal x ls (y ∷ rs) zero h e = total.antisymm (inl x) (inr y) ∙ ap ordering_reverse (e y)
  heads-equal x ls (y ∷ rs) (suc i) h e = heads-equal x ls rs i (omega arith) e

  placed : (ls : List A) (rs : List B) (x : A) (r : Result ℕ ℕ) → BothAscend order (x ∷ ls) rs
      → IsPlace (λ y. order (inr y) (inl x)) rs r → IsFirstPlace order Left (place_of r) (is_ok r) (x ∷ ls) rs
  unfolding IsStrictlySortedBy
  placed ls rs x (Ok i) p q = grind (arith, lower, heads-equal x ls rs i q.within q.equal)
  placed ls rs x (Err i) p q = grind (
    arith,
    lower,
    each-weaker (λ y. order (inr y) (inl x) ≡ Greater) (λ y. order (inl x) (inr y) ≡ Less) (λ y h. grind arith) (drop i rs),
  )

  pub place-left : (ls : List A) (rs : List B) (x : A) (r : Result ℕ ℕ) → BothAscend order ls rs → 0 < length ls
      → x ≡ get_or ls 0 x → IsPlace (λ y. order (inr y) (inl x)) rs r → IsFirstPlace order Left (place_of r) (is_ok r) ls rs
  place-left [] rs x r p h e q = grind arith
  place-left (z ∷ ls) rs x r p h e q = placed ls rs z r p (rw e at q)

-- the other side
abbrev swapped : {A B : Type 0} → A ⊎ B → B ⊎ A
swapped (inl x) = inr x
swapped (inr y) = inl y

module _ {A B : Type 0} (order : A ⊎ B → A ⊎ B → Ordering) (total : IsTotalOrder order) where
  abbrev mirrored : B ⊎ A → B ⊎ A → Ordering
  mirrored u v = order (swapped u) (swapped v)

  place-swapped : (ls : List A) (rs : List B) (n : ℕ) (equal : Bool) → IsFirstPlace mirrored Left n equal rs ls
      → IsFirstPlace order Right n equal ls rs
  place-swapped ls rs n true q = grind arith
  place-swapped ls rs n false q = grind arith

  pub place-right : (ls : List A) (rs : List B) (y : B) (r : Result ℕ ℕ) → BothAscend order ls rs → 0 < length rs
      → y ≡ get_or rs 0 y → IsPlace (λ x. order (inl x) (inr y)) ls r → IsFirstPlace order Right (place_of r) (is_ok r) ls rs
  place-right ls rs y r p h e q = place-swapped ls rs (place_of r) (is_ok r)
      (place-left mirrored (on_total swapped total) rs ls y r (record { left = p.right; right = p.left }) h e q)

-- ---- what the searches leave

module _ {M A B : Type 0} (order : A ⊎ B → A ⊎ B → Ordering) (left : M → List A) (right : M → List B) (ready : M → Type 0) where
  -- how many are left of the shorter list, and of the other one
  abbrev few : Side → M → ℕ
  few side s = fewer side (length (left s)) (length (right s))

  abbrev many : Side → M → ℕ
  many side s = more side (length (left s)) (length (right s))

  -- once what is below the first element of the shorter list was taken, it is as it was, and the longer one is shorter by that
  pub others-taken : (side : Side) (n : ℕ) (equal : Bool) (s t : M) (b : Bool)
      → TakesSide left right ready (opposite side) n s (Ok b) t → b ≡ true → IsFirstPlace order side n equal (left s) (right s)
      → IsFirst order side equal (left t) (right t) × ready t × (few side t ≡ few side s) × (many side t + n ≤ many side s)
  others-taken Left n equal s t b h e q = grind (arith, length-drop)
  others-taken Right n equal s t b h e q = grind (arith, length-drop)

  -- once it was taken, alone or with its equal, the longer list is no longer than before
  pub one-taken : (side : Side) (s t : M) (answer : Answer) → TakesSide left right ready side 1 s answer t
      → IfOk answer (λ go_on. go_on ≡ true → many side t ≤ many side s)
  one-taken Left s t answer h = grind arith
  one-taken Right s t answer h = grind arith

  pub both-taken : (side : Side) (s t : M) (answer : Answer) → TakesBoth left right ready s answer t
      → IfOk answer (λ go_on. go_on ≡ true → many side t ≤ many side s)
  both-taken Left s t answer h = grind (arith, length-drop)
  both-taken Right s t answer h = grind (arith, length-drop)

-- where no more are left than before, there are as few more
pub less-on : (r t p n : ℕ) → r ≤ t → t + p ≤ n → r + p ≤ n
less-on r t p n h k = omega (arith, h, k)

-- of two equal elements, one is of the shorter list
pub both-fewer : (side : Side) (l r m n : ℕ) → (l + 1 ≡ m) × (r + 1 ≡ n)
    → (fewer side l r < fewer side m n) × (more side l r ≤ more side m n)
both-fewer Left l r m n h = grind arith
both-fewer Right l r m n h = grind arith

-- where both lists have an element, so has the shorter one
pub fewer-some : (side : Side) (left right : ℕ) → 0 < left → 0 < right → 0 < fewer side left right
fewer-some side left right h k = grind arith
