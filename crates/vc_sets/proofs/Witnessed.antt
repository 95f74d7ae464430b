-- A merge that stops at the first witness tells whether there is one.
use Rattle.std.proofs.Common.{◌≡◌, Bool, true, false, not, ◌||◌, List, [], ◌∷◌, ◌++◌, map, Result, Ok, refl, sym}
use Rattle.std.proofs.Common.{ap, ◌∙◌, arith, MatchBool}
use Rattle.std.specs.Cmp.{IsTotalOrder, tied_itself}
use Rattle.std.specs.Ordering.{is_eq}
use Rattle.std.specs.declared.cmp.Ordering.{Ordering}
use Rattle.std.specs.declared.cmp.Ordering.TheVariants.{Equal}
use Rattle.std.specs.declared.alloc.AllocError.{AllocError}
use Rattle.vc_merge.specs.Ascending.{member}
use Rattle.vc_merge.specs.Script.{Event, left_alone, right_alone, collision, IsScript}
use Rattle.vc_merge.specs.Chain.{Answer, Allows, allows, Run, of_left, of_right, of_both, run_events, events}
use Rattle.vc_merge.specs.Chain.{IsAtFront, IsAllowed, Step, Steps, Finishes, Stops, IsMerged}
use Rattle.vc_sets.specs.SetOf.{IsSetOf}
use Rattle.vc_merge.specs.Gathering.{Gathers, GivesIf}
use Rattle.vc_merge.proofs.Builds.{gathers-append, gathers-map, gathers-none}
use Rattle.vc_sets.specs.Select.{both_sides, keeps, KeptAt}
use Rattle.vc_sets.proofs.Selected.{set-of}

module _ {X : Type 0} (cmp : X → X → Ordering) (total : IsTotalOrder cmp) where
  -- an element itself is equal
  pub same-equal : (x z : X) → x ≡ z → cmp x z ≡ Equal
  same-equal x z e = grind arith

module _ {X : Type 0} (cmp : X → X → Ordering) (total : IsTotalOrder cmp) (l r both : Bool) where
  -- whether an element is a witness
  abbrev witness : Bool → Bool → Bool
  witness = keeps l r both

  -- an event gives its witness itself
  abbrev witness_at : Event X X → List X → Type 0
  witness_at = KeptAt witness (λ x z. x ≡ z) (λ y z. y ≡ z)

  -- ---- the witnesses among the events

  given-if : (b : Bool) (u : X) → (zs : List X) × GivesIf b (λ z. u ≡ z) zs
  given-if true u = (u ∷ [], (u, refl, refl))
  given-if false u = ([], refl)

  given-at : (e : Event X X) → (zs : List X) × witness_at e zs
  given-at (left_alone x) = given-if l x
  given-at (right_alone y) = given-if r y
  given-at (collision x y) = given-if both x

  all-given : (es : List (Event X X)) → (zs : List X) × Gathers witness_at es zs
  all-given [] = ([], refl)
  all-given (e ∷ es) = let first = given-at e in let rest = all-given es in
      (first.0 ++ rest.0, (first.0, rest.0, first.1, rest.1, refl))

  witnesses : (a b zs : List X) (es : List (Event X X)) → IsScript (both_sides cmp) a b es → Gathers witness_at es zs
      → IsSetOf cmp (λ x z. x ≡ z) (λ y z. y ≡ z) witness a b zs
  witnesses a b zs es s q = set-of cmp total (λ x z. x ≡ z) (λ y z. y ≡ z) (same-equal cmp total)
      (same-equal cmp total) witness refl a b zs es s q

  none-given : (a b : List X) (es : List (Event X X)) → IsScript (both_sides cmp) a b es → Gathers witness_at es []
      → (x : X) → witness (member cmp a x) (member cmp b x) ≡ false
  none-given a b es s q x = sym ((witnesses a b [] es s q).members x)

  some-given : (a b : List X) (es : List (Event X X)) (u : X) (us : List X) → IsScript (both_sides cmp) a b es
      → Gathers witness_at es (u ∷ us) → (x : X) × (witness (member cmp a x) (member cmp b x) ≡ true)
  some-given a b es u us s q = (
    u,
    sym ((witnesses a b (u ∷ us) es s q).members u)
        ∙ ap (λ o. is_eq o || member cmp us u) (tied_itself total u),
  )

  -- ---- the merge

  module _ {M : Type 0} (left right : M → List X) (found : M → Bool) where
    -- an operation that stops at a witness
    abbrev pub witness_allows : Allows M X X
    witness_allows = allows left right (record {
      from_a = λ s n answer t. (answer ≡ Ok (not l)) × (found t ≡ (found s || l));
      from_b = λ s n answer t. (answer ≡ Ok (not r)) × (found t ≡ (found s || r));
      collision = λ s answer t. (answer ≡ Ok (not both)) × (found t ≡ (found s || both));
    })

    -- nothing was found by runs that were all answered by true
    step-none : (s t : M) (run : Run X X) → Step witness_allows s run t → (found t ≡ found s)
        × Gathers witness_at (run_events run) []
    step-none s t run p = grind (arith, gathers-map, gathers-none)

    steps-none : (s t : M) (runs : List (Run X X)) → Steps witness_allows s runs t → (found t ≡ found s)
        × Gathers witness_at (events runs) []
    steps-none s t [] e = grind arith
    steps-none s t (run ∷ runs) e =
        grind (arith, step-none s e.0 run e.1, steps-none e.0 t runs e.2, gathers-append witness_at (run_events run) (events runs) [] [])

    -- the last run was answered otherwise: it begins with a witness
    last-some : (s t : M) (run : Run X X) (answer : Answer) (ls rs : List X) → IsAtFront (left s) (right s) run ls rs
        → IsAllowed witness_allows s run answer t → (answer ≡ Ok true → ⊥)
        → (found t ≡ true) × ((u : X) × (us : List X) × Gathers witness_at (run_events run) (u ∷ us))
    last-some s t (of_left []) answer ls rs p q stop = grind arith
    last-some s t (of_left (x ∷ xs)) answer ls rs p q stop =
        let rest = all-given (map (λ x. left_alone x) xs) in
        let e : l ≡ true = grind arith in
        rw e (grind arith, (x, rest.0, (x ∷ [], rest.0, (x, refl, refl), rest.1, refl)))
    last-some s t (of_right []) answer ls rs p q stop = grind arith
    last-some s t (of_right (y ∷ ys)) answer ls rs p q stop =
        let rest = all-given (map (λ y. right_alone y) ys) in
        let e : r ≡ true = grind arith in
        rw e (grind arith, (y, rest.0, (y ∷ [], rest.0, (y, refl, refl), rest.1, refl)))
    last-some s t (of_both x y) answer ls rs p q stop =
        let e : both ≡ true = grind arith in
        rw e (grind arith, (x, [], (x ∷ [], [], (x, refl, refl), refl, refl)))

    -- whether there is a witness
    Tells : Bool → List X → List X → Type 0
    Tells c a b = MatchBool c ((x : X) × (witness (member cmp a x) (member cmp b x) ≡ true))
        ((x : X) → witness (member cmp a x) (member cmp b x) ≡ false)

    finished : (s t : M) → found s ≡ false → Finishes witness_allows (both_sides cmp) s t → Tells (found t) (left s) (right s)
    unfolding Tells
    finished s t g w = grind (arith, steps-none, Tells, none-given)

    stopped : (s t : M) (answer : Answer) → Stops witness_allows (both_sides cmp) s answer t → Tells (found t) (left s) (right s)
    unfolding Tells
    stopped s t answer w =
        let p = steps-none s w.before w.runs w.steps in
        let q = last-some w.before t w.last answer w.left_after w.right_after w.front w.allowed w.not_true in
        let rest = all-given w.rest in
        let until = gathers-append witness_at (events w.runs) (run_events w.last) [] (q.1.0 ∷ q.1.1) p.1 q.1.2 in
        let all = gathers-append witness_at (events w.runs ++ run_events w.last) w.rest (q.1.0 ∷ q.1.1) rest.0 until rest.1 in
        rw q.0
        (some-given (left s) (right s) ((events w.runs ++ run_events w.last) ++ w.rest) q.1.0 (q.1.1 ++ rest.0) w.script all)

    -- the merge tells whether there is a witness
    pub witnessed : (s t : M) (answer : Result (Unit {0}) AllocError) → found s ≡ false
        → IsMerged witness_allows (both_sides cmp) s answer t
        → MatchBool (found t) ((x : X) × (witness (member cmp (left s) x) (member cmp (right s) x) ≡ true))
        ((x : X) → witness (member cmp (left s) x) (member cmp (right s) x) ≡ false)
    unfolding Tells
    witnessed s t answer g m = grind (arith, finished, stopped)
