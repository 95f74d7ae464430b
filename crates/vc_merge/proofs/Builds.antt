-- A merge that is not refused, over a state that builds, has built what the events of the script give.
use Rattle.std.proofs.Common.{◌≡◌, ℕ, IsOk, Bool, true, false, List, [], ◌∷◌, ◌++◌, map, length, take, Result, Ok}
use Rattle.std.proofs.Common.{◌⊎◌, refl, append_assoc, arith}
use Rattle.std.specs.declared.alloc.AllocError.{AllocError}
use Rattle.std.specs.declared.cmp.Ordering.{Ordering}
use Rattle.std.proofs.lemmas.List.{append-nil}
use Rattle.std.proofs.Math.Seq.{take-append_seam}
use Rattle.std.specs.List.{AllZip}
use Rattle.vc_merge.specs.Script.{Event, left_alone, right_alone}
use Rattle.vc_merge.specs.Chain.{Answer, Allows, Run, of_left, of_right, of_both, run_events, events, IsAtFront}
use Rattle.vc_merge.specs.Chain.{IsAllowed, Step, Steps, Finishes, Stops, IsMerged}
use Rattle.vc_merge.specs.Both.{Both}
use Rattle.vc_merge.specs.Building.{Advances, Skips}
use Rattle.vc_merge.specs.Gathering.{Gathers, GivesIf, Appends, IsBuilt, Adds, IsBuilding}

-- ---- what is gathered

module _ {X Z : Type 0} (gives : X → List Z → Type 0) where
  -- what two lists give, one after the other
  pub gathers-append : (xs ys : List X) (zs ws : List Z) → Gathers gives xs zs → Gathers gives ys ws
      → Gathers gives (xs ++ ys) (zs ++ ws)
  gathers-append [] ys zs ws p q = grind arith
  gathers-append (x ∷ xs) ys zs ws p q =
      (p.0, p.1 ++ ws, p.2, gathers-append xs ys p.1 ws p.3 q, grind (arith, append_assoc p.0 p.1 ws))

  -- what elements give under another name
  pub gathers-map : {W : Type 0} (f : W → X) (ws : List W) (zs : List Z) → Gathers (λ w. gives (f w)) ws zs
      → Gathers gives (map f ws) zs
  gathers-map f [] zs p = p
  gathers-map f (w ∷ ws) zs p = grind (arith, gathers-map f ws p.1 p.3)

  pub appends-nothing : (old new : List Z) → new ≡ old → Appends gives [] old new
  appends-nothing old new e = grind (arith, append-nil)

  pub appends-append : (xs ys : List X) (old mid new : List Z) → Appends gives xs old mid → Appends gives ys mid new
      → Appends gives (xs ++ ys) old new
  appends-append xs ys old mid new p q = record {
    added = p.added ++ q.added;
    gathered = gathers-append xs ys p.added q.added p.gathered q.gathered;
    items = grind (arith, append_assoc old p.added q.added);
  }

  -- elements of which none gives anything
  pub gathers-none : ((x : X) → gives x []) → (xs : List X) → Gathers gives xs []
  gathers-none none [] = refl
  gathers-none none (x ∷ xs) = grind (arith, gathers-none none xs)

  pub appends-none : ((x : X) → gives x []) → (xs : List X) (old new : List Z) → new ≡ old → Appends gives xs old new
  appends-none none xs old new e = grind (arith, gathers-none, append-nil)

-- ---- states that take or skip

module _ {X Z : Type 0} (from : X → Z → Type 0) where
  -- elements of which each gives one
  gathers-each : (xs : List X) (zs : List Z) → AllZip from xs zs → Gathers (λ x. GivesIf true (from x)) xs zs
  gathers-each (x ∷ xs) (z ∷ zs) p = (z ∷ [], zs, (z, p.0, refl), gathers-each xs zs p.1, refl)
  gathers-each xs zs p = grind arith

module _ {M X N : Type 0} (built : M → List X) (name : M → N) where
  -- elements that were taken are added, and those that were skipped are not
  pub advances-adds : (from : X → X → Type 0) (side : M → List X) (s t : M) (n : ℕ) (taken : Bool) (answer : Answer)
      → Advances built name from side s n taken answer t
      → Adds built name (λ x. GivesIf taken (from x)) (take n (side s)) s answer t
  advances-adds from side s t n true answer p = grind (arith, gathers-each)
  advances-adds from side s t n false answer p = grind (arith, appends-none)

  pub skips-adds : {Y : Type 0} (gives : Y → X → Type 0) (ys : List Y) (s t : M) (answer : Answer) → Skips built name s answer t
      → Adds built name (λ y. GivesIf false (gives y)) ys s answer t
  skips-adds gives ys s t answer p = grind (arith, appends-none)

-- what one element gives under another name
pub adds-one : {M W X Z N : Type 0} (built : M → List Z) (name : M → N) (give : W → List Z → Type 0)
    (gives : X → List Z → Type 0) (w : W) (x : X) → ((zs : List Z) → give w zs → gives x zs)
    → (s t : M) (answer : Answer) → Adds built name give (w ∷ []) s answer t → Adds built name gives (x ∷ []) s answer t
adds-one built name give gives w x f s t answer p = grind arith

-- ---- two calls, one after the other

module _ {M X Z N : Type 0} (built : M → List Z) (name : M → N) (gives : X → List Z → Type 0) (xs : List X)
    (first second : M → Answer → M → Type 0) (s : M)
    (adds : (t : M) (answer : Answer) → first s answer t → Adds built name gives xs s answer t)
    (skips : (s t : M) (answer : Answer) → second s answer t → Skips built name s answer t) where
  -- the first call adds, and the second one skips
  pub both-adds : (t : M) (answer : Answer) → Both first second s answer t → Adds built name gives xs s answer t
  both-adds t answer h = grind arith

module _ {M : Type 0} (first second : M → Answer → M → Type 0)
    (one : (s t : M) (answer : Answer) → first s answer t → IsOk answer)
    (two : (s t : M) (answer : Answer) → second s answer t → IsOk answer) where
  -- two calls that are never refused
  pub both-is_ok : (s t : M) (answer : Answer) → Both first second s answer t → IsOk answer
  both-is_ok s t answer h = grind arith

-- ---- whole merges

module _ {M A B : Type 0} (op : Allows M A B) (order : A ⊎ B → A ⊎ B → Ordering) where
  -- a merge whose events are never refused is not refused
  pub merged-is_ok : (s t : M) (result : Result (Unit {0}) AllocError) → IsMerged op order s result t
      → ((s t : M) (n : ℕ) (answer : Answer) → op.gives.from_a s n answer t → IsOk answer)
      → ((s t : M) (n : ℕ) (answer : Answer) → op.gives.from_b s n answer t → IsOk answer)
      → ((s t : M) (answer : Answer) → op.gives.collision s answer t → IsOk answer)
      → Finishes op order s t ⊎ Stops op order s (Ok false) t
  merged-is_ok s t result m a b c = grind arith

module _ {M A B Z N : Type 0} (built : M → List Z) (name : M → N) (op : Allows M A B)
    (gives : Event A B → List Z → Type 0) (is : IsBuilding built name op gives) where
  -- from one state to another, the events were added
  Grows : List (Event A B) → M → M → Type 0
  Grows es s t = (name t ≡ name s) × Appends gives es (built s) (built t)

  -- a run at the front of a list
  appends-front : {X : Type 0} (f : X → Event A B) (all xs rest : List X) (old new : List Z) → all ≡ xs ++ rest
      → Appends (λ x. gives (f x)) (take (length xs) all) old new → Appends gives (map f xs) old new
  appends-front f all xs rest old new e p = grind (arith, take-append_seam, gathers-map)

  step-grows : (s t : M) (run : Run A B) → Step op s run t → Grows (run_events run) s t
  unfolding Grows
  step-grows s t (of_left xs) p =
      let given = is.from_a s t (length xs) (Ok true) p.allowed in
      grind (arith, given, appends-front (λ x. left_alone x) (op.left s) xs (op.left t))
  step-grows s t (of_right ys) p =
      let given = is.from_b s t (length ys) (Ok true) p.allowed in
      grind (arith, given, appends-front (λ y. right_alone y) (op.right s) ys (op.right t))
  step-grows s t (of_both x y) p = grind (arith, is.collision s t (Ok true) p.allowed x y (op.left t) (op.right t))

  steps-grow : (s t : M) (runs : List (Run A B)) → Steps op s runs t → Grows (events runs) s t
  unfolding Grows
  steps-grow s t [] e = grind (arith, appends-nothing gives (built s) (built t))
  steps-grow s t (run ∷ runs) e =
      grind (arith, step-grows s e.0 run e.1, steps-grow e.0 t runs e.2, appends-append gives (run_events run) (events runs))

  -- no event stops the merge
  goes-on : (s t : M) (run : Run A B) (xs : List A) (ys : List B) → IsAtFront (op.left s) (op.right s) run xs ys
      → IsAllowed op s run (Ok false) t → ⊥
  goes-on s t (of_both x y) xs ys f h = grind (arith, is.collision s t (Ok false) h x y xs ys)
  goes-on s t run xs ys f h = grind arith

  -- a merge that is not refused has built what the events of the script give
  pub merged-builds : (order : A ⊎ B → A ⊎ B → Ordering) (s t : M) → Finishes op order s t ⊎ Stops op order s (Ok false) t
      → (name t ≡ name s) × IsBuilt order gives (op.left s) (op.right s) (built s) (built t)
  unfolding Grows
  merged-builds order s t m = grind (arith, steps-grow, goes-on)
