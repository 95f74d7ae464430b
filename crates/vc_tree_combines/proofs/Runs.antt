-- Trees that only one side has, one after the other, with what is left of the other side.
--     on-ok        what follows where a call succeeds
--     none-added, lefts-none, rights-none        nothing is left of a tree, or of any
--     lefts, rights        they may be asked of, and are done
--     first-lefts, first-rights        the same of the first trees of a list
use Rattle.std.proofs.Common.{◌≡◌, ℕ, [], ◌∷◌, ◌++◌, List, Option, None, Some, refl, sym, append-nil}
use Rattle.std.proofs.Common.{slice_get, arith, inl, inr, ◌⊎◌, take, drop, Result, OnOk}
use Rattle.std.proofs.lemmas.List.{take-append-drop}
use Rattle.std.specs.Cmp.{IsTotalOrder}
use Rattle.std.specs.List.{AllByRecursion, cons_option}
use Rattle.std.specs.declared.cmp.Ordering.{Ordering}
use Rattle.std.specs.declared.cmp.Ordering.TheVariants.{Less}
use Rattle.vc_merge.specs.Fronts.{LeftBelow, RightBelow}
use Rattle.vc_merge.proofs.ListLemmas.{each-weaker}
use Rattle.vc_tree_model.specs.Child.{bound_by}
use Rattle.vc_tree_model.specs.Look.{values}
use Rattle.vc_tree_model.specs.Tree.{Tree}
use Rattle.vc_tree_facing.specs.Doing.{IsDoing, AreNext}
use Rattle.vc_tree_facing.specs.Sides.{by_component, by_component_total, side_next}
use Rattle.vc_tree_facing.specs.declared.sides.EventSide.TheVariants.{Left, Right}
use Rattle.vc_tree_facing.proofs.Next.{doing-start, asked, done, left_within, right_within, left-next, right-next}
use Rattle.vc_tree_combines.specs.Making.{MayAddLefts, MayAddRights, IsAdded, AreLeftAdded, AreRightAdded}

-- what follows where a call succeeds
pub on-ok : {X E P Q : Type 0} (r : Result X E) → OnOk r P → (P → Q) → OnOk r Q
on-ok r h f = grind arith

module _ {A B : Type 0} (order : A ⊎ B → A ⊎ B → Ordering) where
  -- each of these is the next tree, whatever stands behind it
  abbrev pub AreLeft : List A → Option B → Type 0
  AreLeft ts b = AllByRecursion (λ x. side_next order (Some x) b ≡ Some Left) ts

  abbrev pub AreRight : Option A → List B → Type 0
  AreRight a ts = AllByRecursion (λ y. side_next order a (Some y) ≡ Some Right) ts

  -- where the other side has none left
  pub left-alone : (ts : List A) → AreLeft ts None
  left-alone [] = tt
  left-alone (x ∷ ts) = (refl, left-alone ts)

  pub right-alone : (ts : List B) → AreRight None ts
  right-alone [] = tt
  right-alone (y ∷ ts) = (refl, right-alone ts)

  module _ (total : IsTotalOrder order) where
    first-below : (x : A) (rs : List B) → AllByRecursion (λ y. order (inl x) (inr y) ≡ Less) rs
        → side_next order (Some x) (slice_get rs 0) ≡ Some Left
    first-below x [] h = refl
    first-below x (y ∷ rs) h = grind arith

    below-next : (ts : List A) (rs : List B) → LeftBelow order ts rs → AreLeft ts (slice_get rs 0)
    below-next ts rs b = each-weaker _ _ (λ x h. first-below x rs h) ts b

    first-above : (y : B) (ls : List A) → AllByRecursion (λ x. order (inr y) (inl x) ≡ Less) ls
        → side_next order (slice_get ls 0) (Some y) ≡ Some Right
    first-above y [] h = refl
    first-above y (x ∷ ls) h = rw h.0 refl

    above-next : (ts : List B) (ls : List A) → RightBelow order ts ls → AreRight (slice_get ls 0) ts
    above-next ts ls b = each-weaker _ _ (λ y h. first-above y ls h) ts b

-- where nothing is left of a tree, or of any
module _ {K V W U : Type 0} (cmp : K → K → Ordering) (R : Option V → Option W → Option U → Type 0) where
  pub none-added : (t : Option (Tree K V)) (u : Option (Tree K W)) (made : List (Tree K U))
      → ((k : List K) → R (bound_by cmp t k) (bound_by cmp u k) None) → IsAdded cmp R t u made made
  none-added t u made h =
      record { one = None; made = record { child = tt; begins = λ y a b. tt; binds = h }; is = sym (append-nil made) }

  module _ (h : (v : Option V) → R v None None) where
    pub lefts-none : {T : Type 0} (tree : T → Tree K V) (ts : List T) (made : List (Tree K U))
        → AreLeftAdded cmp R tree ts made made
    lefts-none tree [] made = refl
    lefts-none tree (t ∷ ts) made = (made, none-added (Some (tree t)) None made (λ k. h _), lefts-none tree ts made)

  module _ (h : (w : Option W) → R None w None) where
    pub rights-none : {T : Type 0} (tree : T → Tree K W) (ts : List T) (made : List (Tree K U))
        → AreRightAdded cmp R tree ts made made
    rights-none tree [] made = refl
    rights-none tree (t ∷ ts) made = (made, none-added None (Some (tree t)) made (λ k. h _), rights-none tree ts made)

module _ {K V W U A B : Type 0} {cmp : K → K → Ordering} {ta : A → Tree K V} {tb : B → Tree K W} {i j : ℕ}
    {asks : Option V → Option W → Type 0} where
  -- the same state, of which nothing is made, behind the next trees
  passed-anew : {R : Option V → Option W → Option U → Type 0} {xs : List A} {ys : List B} {a : Option A} {b : Option B}
      {ls : List A} {rs : List B} {made : List (Tree K U)} → AreNext cmp ta tb i j (values cmp) R asks xs ys a b ls rs made
      → IsDoing cmp ta tb i j (values cmp) (λ v w (z : Option U). Unit {0}) asks (cons_option a ls) (cons_option b rs) ls rs []
  passed-anew {a = a} {b} {ls} {rs} n =
      let d = n.doing in
      let anew : AreNext cmp ta tb i j (values cmp) (λ v w (z : Option U). Unit {0}) asks (cons_option a ls)
      (cons_option b rs) a b ls rs [] =
      record { doing = doing-start d.total d.none d.left d.right d.asked refl; first = n.first } in
      done anew {u = None} refl (record { child = tt; begins = λ y a b. tt; binds = λ k. tt })

-- trees of the left side, whole ones: they may be asked of, and are done
module _ {K V W U A B : Type 0} {cmp : K → K → Ordering} {ta : A → Tree K V} {tb : B → Tree K W} {j : ℕ}
    {asks : Option V → Option W → Type 0} where
  pub lefts : (ts : List A) {R : Option V → Option W → Option U → Type 0} {xs : List A} {ys : List B} {ls : List A} {rs : List B}
      {made : List (Tree K U)} → IsDoing cmp ta tb 0 j (values cmp) R asks xs ys (ts ++ ls) rs made
      → AreLeft (by_component ta tb 0 j cmp) ts (slice_get rs 0)
      → MayAddLefts cmp asks ta ts × ((made' : List (Tree K U)) → AreLeftAdded cmp R ta ts made made'
      → IsDoing cmp ta tb 0 j (values cmp) R asks xs ys ls rs made')
  lefts [] d s = (tt, λ made' m. rw m d)
  lefts (x ∷ ts) d s =
      let n = left-next d s.0 refl in
      let others = lefts ts (passed-anew n) s.1 in
      (((left_within d refl, asked n), others.0), λ made' m. (lefts ts (done n m.1.is m.1.made) s.1).1 made' m.2)

-- of the right side
module _ {K V W U A B : Type 0} {cmp : K → K → Ordering} {ta : A → Tree K V} {tb : B → Tree K W} {i : ℕ}
    {asks : Option V → Option W → Type 0} where
  pub rights : (ts : List B) {R : Option V → Option W → Option U → Type 0} {xs : List A} {ys : List B} {ls : List A} {rs : List B}
      {made : List (Tree K U)} → IsDoing cmp ta tb i 0 (values cmp) R asks xs ys ls (ts ++ rs) made
      → AreRight (by_component ta tb i 0 cmp) (slice_get ls 0) ts
      → MayAddRights cmp asks tb ts × ((made' : List (Tree K U)) → AreRightAdded cmp R tb ts made made'
      → IsDoing cmp ta tb i 0 (values cmp) R asks xs ys ls rs made')
  rights [] d s = (tt, λ made' m. rw m d)
  rights (y ∷ ts) d s =
      let n = right-next d s.0 refl in
      let others = rights ts (passed-anew n) s.1 in
      (((right_within d refl, asked n), others.0), λ made' m. (rights ts (done n m.1.is m.1.made) s.1).1 made' m.2)

-- ---- the first trees of a list, which the other side does not have

module _ {K V W U A B : Type 0} {cmp : K → K → Ordering} {ta : A → Tree K V} {tb : B → Tree K W}
    {R : Option V → Option W → Option U → Type 0} {asks : Option V → Option W → Type 0} {xs : List A} {ys : List B} {ls : List A}
    {rs : List B} {made : List (Tree K U)} (d : IsDoing cmp ta tb 0 0 (values cmp) R asks xs ys ls rs made) (n : ℕ) where
  abbrev order : A ⊎ B → A ⊎ B → Ordering
  order = by_component ta tb 0 0 cmp

  pub first-lefts : {ts ls' : List A} → LeftBelow order (take n ls) rs → ts ≡ take n ls → ls' ≡ drop n ls
      → MayAddLefts cmp asks ta ts × ((made' : List (Tree K U)) → AreLeftAdded cmp R ta ts made made'
      → IsDoing cmp ta tb 0 0 (values cmp) R asks xs ys ls' rs made')
  first-lefts b e f =
      let parted : IsDoing cmp ta tb 0 0 (values cmp) R asks xs ys (take n ls ++ drop n ls) rs made =
      rw (take-append-drop n ls) d in
      rw (e, f) (lefts (take n ls) parted (below-next order (by_component_total ta tb 0 0 d.total) (take n ls) rs b))

  pub first-rights : {ts rs' : List B} → RightBelow order (take n rs) ls → ts ≡ take n rs → rs' ≡ drop n rs
      → MayAddRights cmp asks tb ts × ((made' : List (Tree K U)) → AreRightAdded cmp R tb ts made made'
      → IsDoing cmp ta tb 0 0 (values cmp) R asks xs ys ls rs' made')
  first-rights b e f =
      let parted : IsDoing cmp ta tb 0 0 (values cmp) R asks xs ys ls (take n rs ++ drop n rs) made =
      rw (take-append-drop n rs) d in
      rw (e, f) (rights (take n rs) parted (above-next order (by_component_total ta tb 0 0 d.total) (take n rs) ls b))
