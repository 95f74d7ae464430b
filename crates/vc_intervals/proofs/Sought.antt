-- A walk that searches for a place at which f is true tells whether there is one.
use Rattle.std.proofs.Common.{◌≡◌, Bool, true, false, not, List, [], ◌∷◌, ◌++◌, Result, Ok, Err, inl, inr}
use Rattle.std.proofs.Common.{refl, sym, ap, ◌∙◌, append_assoc, MatchBool, arith}
use Rattle.std.proofs.lemmas.List.{append-nil}
use Rattle.std.specs.List.Sorted.{IsStrictlySortedBy}
use Rattle.std.specs.Cmp.{IsTotalOrder}
use Rattle.std.specs.declared.cmp.Ordering.{Ordering}
use Rattle.std.specs.declared.alloc.AllocError.{AllocError}
use Rattle.vc_merge.specs.Script.{Event}
use Rattle.vc_merge.specs.Chain.{Answer, Allows, allows, Run, of_left, of_right, of_both, run_events, events, IsAtFront}
use Rattle.vc_merge.specs.Chain.{IsAllowed, Steps, Stops, IsMerged}
use Rattle.vc_sets.specs.Select.{both_sides}
use Rattle.vc_intervals.specs.Boundaries.{intervals, toggled}
use Rattle.vc_intervals.specs.Events.{kept, Seeks}
use Rattle.vc_intervals.proofs.Kept.{kept-intervals}
use Rattle.vc_intervals.proofs.OneList.{at-first}
use Rattle.vc_intervals.proofs.Walked.{kept-of_left, kept-of_right}

module _ {X : Type 0} (cmp : X → X → Ordering) (total : IsTotalOrder cmp) (f : Bool → Bool → Bool) {M : Type 0}
    (left right : M → List X) (in_a in_b found : M → Bool) where
  abbrev pub search_walk : Allows M X X
  search_walk = allows left right (record {
    from_a = λ s n answer t. Seeks f in_a in_b found true false n s answer t;
    from_b = λ s n answer t. Seeks f in_a in_b found false true n s answer t;
    collision = λ s answer t. Seeks f in_a in_b found true true 1 s answer t;
  })

  -- nothing is kept of these events, between two states
  record Quiet (es : List (Event X X)) (s t : M) : Type 0 where
    none : (rest : List (Event X X)) → kept f (in_a s) (in_b s) (es ++ rest) ≡ kept f (in_a t) (in_b t) rest
    still : f (in_a t) (in_b t) ≡ false
    unfound : found t ≡ false

  -- nothing is kept of a run that was answered by true
  quiet-run : (s t : M) (run : Run X X) → f (in_a s) (in_b s) ≡ false → IsAllowed search_walk s run (Ok true) t → Quiet (run_events run) s t
  quiet-run s t (of_left xs) e k = grind (arith, kept-of_left)
  quiet-run s t (of_right ys) e k = grind (arith, kept-of_right)
  quiet-run s t (of_both x y) e k = grind arith

  quiet-steps : (s t : M) (runs : List (Run X X)) → f (in_a s) (in_b s) ≡ false → found s ≡ false
      → Steps search_walk s runs t → Quiet (events runs) s t
  quiet-steps s t [] e h w = grind arith
  quiet-steps s t (run ∷ runs) e h w =
      let p = quiet-run s w.0 run e w.1.allowed in
      grind (arith, append_assoc, p, quiet-steps w.0 t runs p.still p.unfound w.2)

  -- the last run was answered otherwise: it begins with what is sought
  record Begins (ks : List X) (t : M) : Type 0 where
    first : X
    others : List X
    is : ks ≡ first ∷ others
    was_found : found t ≡ true

  last-begins : (s t : M) (run : Run X X) (answer : Answer) (ls rs : List X) (rest : List (Event X X))
      → f (in_a s) (in_b s) ≡ false → IsAtFront (left s) (right s) run ls rs → IsAllowed search_walk s run answer t
      → (answer ≡ Ok true → ⊥) → Begins (kept f (in_a s) (in_b s) (run_events run ++ rest)) t
  last-begins s t (of_left []) answer ls rs rest e p k stop = grind arith
  last-begins s t (of_left (x ∷ xs)) answer ls rs rest e p k stop = grind arith
  last-begins s t (of_right []) answer ls rs rest e p k stop = grind arith
  last-begins s t (of_right (y ∷ ys)) answer ls rs rest e p k stop = grind arith
  last-begins s t (of_both x y) answer ls rs rest e p k stop = grind arith

  -- ---- whole walks

  -- what f says of both sets at a place
  abbrev pub said : M → X → Bool
  said s x = f (toggled cmp (in_a s) (left s) x) (toggled cmp (in_b s) (right s) x)

  abbrev pub Tells : Bool → M → Type 0
  Tells c s = MatchBool c ((x : X) × (said s x ≡ true)) ((x : X) → said s x ≡ false)

  stopped : (s t : M) (answer : Answer) → f (in_a s) (in_b s) ≡ false → found s ≡ false
      → Stops search_walk (both_sides cmp) s answer t → Tells (found t) s
  unfolding IsStrictlySortedBy
  stopped s t answer e h w =
      let q = quiet-steps s w.before w.runs e h w.steps in
      let b = last-begins w.before t w.last answer w.left_after w.right_after w.rest q.still w.front w.allowed w.not_true in
      let all = (events w.runs ++ run_events w.last) ++ w.rest in
      let is : kept f (in_a s) (in_b s) all ≡ b.first ∷ b.others = rw append_assoc (q.none (run_events w.last ++ w.rest) ∙ b.is) in
      let k = kept-intervals cmp total f (intervals (left s) (in_a s)) (intervals (right s) (in_b s)) all w.script in
      rw b.was_found (b.first, sym (k.at b.first) ∙ rw is (at-first cmp total _ b.first b.others (rw is at k.ascends).0 ∙ ap not e))

  -- the walk tells whether there is a place
  pub walk-tells : (s t : M) (answer : Result (Unit {0}) AllocError) → f (in_a s) (in_b s) ≡ false → found s ≡ false
      → IsMerged search_walk (both_sides cmp) s answer t → Tells (found t) s
  walk-tells s t (Ok x) e h (inl w) =
      let q = quiet-steps s t w.runs e h w.steps in
      let k = kept-intervals cmp total f (intervals (left s) (in_a s)) (intervals (right s) (in_b s)) (events w.runs) w.script in
      rw q.unfound (λ x. sym (k.at x) ∙ rw (sym (append-nil (events w.runs)), q.none [], e) refl)
  walk-tells s t (Ok x) e h (inr w) = stopped s t (Ok false) e h w
  walk-tells s t (Err x) e h w = stopped s t (Err x) e h w
