-- A merge that builds the result of trees of only one list, and stops at two that begin alike.
--     stopped        what holds of the state before, holds where it stops
--     pair-next, pair-end        two that begin alike are next there, or all are done
--     owed-begun, owed-merged, owed-pair, owed-spent        what was compared is paid by the trees
use Rattle.std.proofs.Common.{◌≡◌, ℕ, ◌≤◌, [], ◌∷◌, ◌++◌, List, Option, Some, None, true, false, Result, Ok, Err, IfOk, ◌⊎◌}
use Rattle.std.proofs.Common.{inl, inr, refl, subst, ◌∙◌, length, slice_get, ◌+◌, ◌*◌, min, arith}
use Rattle.vc_tree_model.specs.Shortened.{weight, forest_weight}
use Rattle.vc_merge.specs.Plan.{planned}
use Rattle.vc_merge.specs.declared.plan.Plan.{Plan}
use Rattle.vc_tree_facing.proofs.Opening.{few-below}
use Rattle.vc_tree_model.specs.Look.{values}
use Rattle.vc_tree_model.specs.Tree.{Tree, forest}
use Rattle.vc_tree_nodes.specs.Children.{seen}
use Rattle.std.specs.Prelude.{OnOk}
use Rattle.std.specs.declared.alloc.AllocError.{AllocError}
use Rattle.std.specs.declared.cmp.Ordering.{Ordering}
use Rattle.std.specs.declared.cmp.Ordering.TheVariants.{Equal}
use Rattle.vc_merge.specs.Chain.{Answer, Allows, allows, Run, of_left, of_right, of_both, BehindPair}
use Rattle.vc_merge.specs.Chain.{IsAtFront, IsAllowed, Steps, IsMergedBefore}
use Rattle.vc_merge.specs.Fronts.{HeadsCompare}
use Rattle.vc_tree_facing.specs.Doing.{IsDoing, AreNext}
use Rattle.vc_tree_facing.specs.Facing.{shortened_in}
use Rattle.vc_tree_facing.specs.Sides.{by_component, by_component_total, side_next}
use Rattle.vc_tree_facing.proofs.Next.{both-next, all-done}
use Rattle.vc_tree_combines.specs.Making.{AreMadeOf}
use Rattle.vc_tree_combines.specs.Stopping.{IsAtPair}
use Rattle.vc_tree_combines.proofs.Passing.{steps-parts, none-after}

-- an operation whose runs keep what holds of the state, and which stops at a pair
module _ {M A B : Type 0} (left : M → List A) (right : M → List B) (order : A ⊎ B → A ⊎ B → Ordering) (holds : M → Type 0) where
  abbrev makes : Allows M A B
  makes = allows left right (record {
    from_a = λ s n answer t. IfOk answer (λ go_on. (go_on ≡ true) × holds t);
    from_b = λ s n answer t. IfOk answer (λ go_on. (go_on ≡ true) × holds t);
    collision = λ s answer t. (answer ≡ Ok false) × (t ≡ s) × holds s × HeadsCompare order (left s) (right s) Equal;
  })

  -- what holds of the state is kept by runs of which none was a pair
  all-kept : (s t : M) (runs : List (Run A B)) → holds s → Steps makes s runs t → holds t
  all-kept s t [] h e = subst holds e h
  all-kept s t (of_left xs ∷ runs) h p = all-kept p.0 t runs p.1.allowed.1 p.2
  all-kept s t (of_right ys ∷ runs) h p = all-kept p.0 t runs p.1.allowed.1 p.2
  all-kept s t (of_both x y ∷ runs) h p = let e : ◌≡◌ {A = Answer} (Ok true) (Ok false) = p.1.allowed.0 in absurd (cc)

  -- where it stops
  pub record HasStopped (P : List A → List B → Type 0) (s t : M) : Type 0 where
    pub kept : holds t
    pub pair : IsAtPair order P (left t) (right t)
    pub left_part : (passed : List A) × (left s ≡ passed ++ left t)
    pub right_part : (passed : List B) × (right s ≡ passed ++ right t)

  stopped-by : (P : List A → List B → Type 0) (s t u : M) (run : Run A B) (ls : List A) (rs : List B)
      → (passed : List A) × (left s ≡ passed ++ left u) → (passed : List B) × (right s ≡ passed ++ right u)
      → IsAtFront (left u) (right u) run ls rs → IsAllowed makes u run (Ok false) t → BehindPair P run ls rs → HasStopped P s t
  stopped-by P s t u (of_both x y) ls rs n m f a b =
      let e = f.0 in
      let k = f.1 in
      rw a.1 (record { kept = a.2; pair = rw (e, k) (rw (e, k) at a.3, b); left_part = n; right_part = m })
  stopped-by P s t u run ls rs n m f a b = grind arith

  pub stopped : (P : List A → List B → Type 0) (s t : M) (r : Result (Unit {0}) AllocError) → holds s
      → IsMergedBefore makes order P s r t → OnOk r (HasStopped P s t)
  stopped P s t (Ok u) h (inl f) =
      let p = steps-parts makes s t f.runs f.steps in
      let l = none-after _ _ (f.script.left ∙ p.0) in
      let k = none-after _ _ (f.script.right ∙ p.1) in
      record { kept = all-kept s t f.runs h f.steps; pair = rw (l, k) tt; left_part = (_, p.0); right_part = (_, p.1) }
  stopped P s t (Ok u) h (inr w) =
      let k = w.stops in
      let p = steps-parts makes s k.before k.runs k.steps in
      stopped-by P s t k.before k.last k.left_after k.right_after (_, p.0) (_, p.1) k.front k.allowed w.behind
  stopped P s t (Err x) h w = tt

-- where it stopped, and what is done up to there
module _ {K V W U A B : Type 0} {cmp : K → K → Ordering} {ta : A → Tree K V} {tb : B → Tree K W}
    {R : Option V → Option W → Option U → Type 0} {asks : Option V → Option W → Type 0} {xs ls : List A} {ys rs : List B}
    {made : List (Tree K U)} (d : IsDoing cmp ta tb 0 0 (values cmp) R asks xs ys ls rs made) (P : List A → List B → Type 0)
    (h : IsAtPair (by_component ta tb 0 0 cmp) P ls rs) where
  -- the two that begin alike are next
  pub pair-next : {x : A} {ls' : List A} {y : B} {rs' : List B} → ls ≡ x ∷ ls' → rs ≡ y ∷ rs'
      → AreNext cmp ta tb 0 0 (values cmp) R asks xs ys (Some x) (Some y) ls' rs' made
  pair-next {x} {y} e f =
      let k = rw (e, f) at h in
      both-next d (rw (e, f, (by_component_total ta tb 0 0 d.total).antisymm (inr y) (inl x), k.0) refl) e f

  -- or all are done
  pub pair-end : (ls ≡ []) ⊎ (rs ≡ []) → R None None None
      → AreMadeOf cmp R (shortened_in ta 0 xs) (shortened_in tb 0 ys) (forest made)
  pair-end e none = all-done d (ended ls rs h e) none
    where
      ended : (ls : List A) (rs : List B) → IsAtPair (by_component ta tb 0 0 cmp) P ls rs → (ls ≡ []) ⊎ (rs ≡ [])
          → side_next (by_component ta tb 0 0 cmp) (slice_get ls 0) (slice_get rs 0) ≡ None
      ended ls rs h e = grind arith

-- ---- what was compared is paid by the trees

-- the trees that were passed weigh one or more each
passed-weigh : {T K V : Type 0} (tree : T → Tree K V) (ls xs : List T) → 3 * forest_weight (seen tree ls) + length (xs ++ ls)
    ≤ 3 * forest_weight (seen tree (xs ++ ls)) + length ls
passed-weigh tree ls [] = omega arith
passed-weigh tree ls (x ∷ xs) = grind (arith, passed-weigh tree ls xs)

module _ {K V W A B : Type 0} (cmp : K → K → Ordering) (ta : A → Tree K V) (tb : B → Tree K W) (plan : Plan) where
  -- so much was compared, and what is left pays for what may be
  abbrev pub IsOwed : (c start : ℕ) → List A → List B → List A → List B → Type 0
  IsOwed c start ls rs xs ys =
      c + planned plan (length ls) (length rs) + 3 * (forest_weight (seen ta xs) + forest_weight (seen tb ys))
      ≤ start + (length xs + length ys)

  pub owed-begun : (c : ℕ) (xs : List A) (ys : List B) (q : ℕ)
      → planned plan (length xs) (length ys) ≤ min (length xs + length ys) q
      → IsOwed c (c + 3 * (forest_weight (seen ta xs) + forest_weight (seen tb ys))) xs ys xs ys
  owed-begun c xs ys q h = omega arith

  pub owed-spent : (c start : ℕ) (xs : List A) (ys : List B) (d : ℕ) → IsOwed c start xs ys xs ys
      → d ≤ c + planned plan (length xs) (length ys) → d ≤ start
  owed-spent c start xs ys d h k = omega (arith, few-below ta 0 xs, few-below tb 0 ys, h, k)

  abbrev order : A ⊎ B → A ⊎ B → Ordering
  order = by_component ta tb 0 0 cmp

  -- after a merge that stopped at a pair
  pub owed-merged : (c d start : ℕ) (xs : List A) (ys : List B) (ls : List A) (rs : List B)
      → IsOwed c start xs ys xs ys → d ≤ c + planned plan (length xs) (length ys)
      → (passed : List A) × (xs ≡ passed ++ ls) → (passed : List B) × (ys ≡ passed ++ rs)
      → IsAtPair order (λ l r. d + planned plan (length l) (length r) ≤ c + planned plan (length xs) (length ys)) ls rs
      → IsAtPair order (λ l r. IsOwed d start l r ls rs) ls rs × (d ≤ start)
  owed-merged c d start xs ys ls rs w k e f h =
      let a = rw (← e.1) at (passed-weigh ta ls e.0) in
      let b = rw (← f.1) at (passed-weigh tb rs f.0) in
      (weaker ls rs _ _ (λ l r k. omega (arith, a, b, w, k)) h, owed-spent c start xs ys d w k)
    where
      weaker : (ls : List A) (rs : List B) (P Q : List A → List B → Type 0) → ((ls : List A) (rs : List B) → P ls rs → Q ls rs)
          → IsAtPair order P ls rs → IsAtPair order Q ls rs
      weaker ls rs P Q f h = grind arith

  -- after the pair
  pub owed-pair : (c d start : ℕ) (xs : List A) (ys : List B) (ls : List A) (rs : List B) (x : A) (y : B)
      → IsAtPair order (λ l r. IsOwed c start l r xs ys) xs ys → xs ≡ x ∷ ls → ys ≡ y ∷ rs
      → d + 2 ≤ c + 3 * (weight (ta x) + weight (tb y)) → IsOwed d start ls rs ls rs
  owed-pair c d start xs ys ls rs x y h e f w = let k = rw (e, f) at h in omega (arith, k.1, w)
