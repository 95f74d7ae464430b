-- A merge that notes the right trees that come in, and stops at two that begin alike.
--     noted-next        what is noted where it stops
use Rattle.std.proofs.Common.{◌≡◌, ℕ, ◌+◌, ◌-◌, [], ◌∷◌, List, Option, None, true, false, Ok, IfOk, ◌⊎◌, sym, ap}
use Rattle.std.proofs.Common.{take, length, length-append, arith}
use Rattle.std.proofs.Math.Seq.{take-append_seam}
use Rattle.std.specs.List.{cons_option}
use Rattle.std.specs.declared.cmp.Ordering.{Ordering}
use Rattle.std.specs.declared.cmp.Ordering.TheVariants.{Equal}
use Rattle.vc_merge.specs.Chain.{Allows, allows, Run, of_left, of_right, of_both, Steps, IsMergedBefore}
use Rattle.vc_merge.specs.Fronts.{LeftBelow, RightBelow, HeadsCompare}
use Rattle.vc_tree_edits.specs.declared.comers.Comer.{Comer}
use Rattle.vc_tree_edits.specs.Woven.{comer, AreAdded, AreNoted, IsNextNoted}
use Rattle.vc_tree_edits.proofs.Passing.{Passes, HasStopped, stopped, stopped-next, true-false}

module _ {M A B : Type 0} (left : M → List A) (right : M → List B) (comers : M → List (Comer A))
    (order : A ⊎ B → A ⊎ B → Ordering) (comes : B → A → Type 0) (end : ℕ) where
  abbrev pub noting : Allows M A B
  noting = allows left right (record {
    from_a = λ s n answer t. (answer ≡ Ok true) × LeftBelow order (take n (left s)) (right s) × (comers t ≡ comers s);
    from_b = λ s n answer t. IfOk answer (λ go_on. (go_on ≡ true) × RightBelow order (take n (right s)) (left s)
        × AreAdded comes (comer (end - length (left s))) (take n (right s)) (comers s) (comers t));
    collision = λ s answer t. (answer ≡ Ok false) × (t ≡ s) × HeadsCompare order (left s) (right s) Equal;
  })

  pub passes : Passes order noting
  passes = record { goes_on = λ s t run a. grind arith; stops = λ s t run a. grind arith }

  noted-steps : (n : ℕ) (s t : M) (runs : List (Run A B)) → n + length (left s) ≡ end → Steps noting s runs t
      → AreNoted comes n runs (comers s) (comers t)
  noted-steps n s t [] e h = sym (ap comers h)
  noted-steps n s t (of_left xs ∷ runs) e h =
      rw (← h.1.allowed.2) (noted-steps (n + length xs) h.0 t runs (grind (arith, length-append xs (left h.0))) h.2)
  noted-steps n s t (of_right ys ∷ runs) e h =
      let place : end - length (left s) ≡ n = omega (arith, e) in
      let added = rw (h.1.front.2, take-append_seam ys (right h.0), place) at h.1.allowed.2 in
      (comers h.0, added, noted-steps n h.0 t runs (rw (← h.1.front.1) e) h.2)
  noted-steps n s t (of_both x y ∷ runs) e h = absurd (true-false h.1.allowed.0)

  pub noted-stopped : (P : List A → List B → Type 0) (s t : M) → IsMergedBefore noting order P s (Ok tt) t
      → HasStopped order noting passes P s t
  noted-stopped P s t m = stopped order noting passes P s t m

  pub noted-next : (P : List A → List B → Type 0) (n : ℕ) (s t : M) → HasStopped order noting passes P s t
      → n + length (left s) ≡ end → (found : Option B) (rest : List B) → right t ≡ cons_option found rest
      → (found ≡ None → rest ≡ []) → {old : List (Comer A)} → comers s ≡ old
      → IsNextNoted comes order n (left s) (right s) (length (left s) - length (left t)) found rest old (comers t)
  noted-next P n s t h e found rest r none same = record {
    pair = stopped-next order noting passes P s t h found rest r none;
    noted = rw (← same) (noted-steps n s t h.runs e h.steps);
  }
