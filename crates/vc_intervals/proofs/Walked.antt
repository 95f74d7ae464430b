-- A walk over the boundaries of two sets keeps what the events of their script keep, as clones.
--     kept-of_left, kept-of_right        of a run of one side
--     cloned-intervals        what is known of boundaries is known of their clones
--     walked-intervals        a whole walk
use Rattle.std.proofs.Common.{◌≡◌, Bool, true, false, not, List, [], ◌∷◌, ◌++◌, map, length, Option}
use Rattle.std.proofs.Common.{Ok, ◌⊎◌, inl, inr, sym, ap, subst, ◌∙◌, append_assoc, arith}
use Rattle.std.proofs.Math.Seq.{take-append_seam}
use Rattle.std.proofs.lemmas.List.{append-nil}
use Rattle.std.specs.List.{AllZip}
use Rattle.std.specs.Cmp.{IsTotalOrder}
use Rattle.std.specs.declared.cmp.Ordering.{Ordering}
use Rattle.vc_merge.specs.Ascending.{element_at}
use Rattle.vc_merge.specs.Building.{Built, Extends}
use Rattle.vc_merge.specs.Clones.{ClonesAreEqual}
use Rattle.vc_merge.specs.Script.{Event, left_alone, right_alone}
use Rattle.vc_merge.specs.Chain.{Allows, allows, Run, of_left, of_right, of_both, run_events, events}
use Rattle.vc_merge.specs.Chain.{IsAllowed, Step, Steps, Finishes, Stops}
use Rattle.vc_merge.proofs.Clones.{clone-equal, clones-ascend}
use Rattle.vc_sets.specs.SetOf.{exactly_one}
use Rattle.vc_sets.specs.Select.{both_sides}
use Rattle.vc_intervals.specs.Boundaries.{Intervals, intervals}
use Rattle.vc_intervals.specs.IntervalsOf.{Comes, IsIntervalsOf}
use Rattle.vc_intervals.specs.Events.{odd, kept, passes}
use Rattle.vc_intervals.proofs.Kept.{kept-intervals}
use Rattle.vc_intervals.proofs.Toggled.{toggled-alike}

-- ---- what is kept of a run

-- all of xs, or nothing
abbrev pub all_if : {X : Type 0} → Bool → List X → List X
all_if true xs = xs
all_if false xs = []

module _ {X : Type 0} (f : Bool → Bool → Bool) where
  pub kept-of_left : (p q : Bool) (xs : List X) (es : List (Event X X)) → kept f p q (map (λ x. left_alone x) xs ++ es)
      ≡ all_if (exactly_one (f p q) (f (not p) q)) xs ++ kept f (exactly_one (odd (length xs)) p) q es
  kept-of_left p q [] es = grind arith
  kept-of_left p q (x ∷ xs) es = grind (arith, kept-of_left (not p) q xs es)

  pub kept-of_right : (p q : Bool) (ys : List X) (es : List (Event X X)) → kept f p q (map (λ y. right_alone y) ys ++ es)
      ≡ all_if (exactly_one (f p q) (f p (not q))) ys ++ kept f p (exactly_one (odd (length ys)) q) es
  kept-of_right p q [] es = grind arith
  kept-of_right p q (y ∷ ys) es = grind (arith, kept-of_right p (not q) ys es)

-- ---- clones

module _ {X : Type 0} (cmp : X → X → Ordering) (total : IsTotalOrder cmp) (is_clone : X → X → Type 0)
    (alike : ClonesAreEqual cmp is_clone) where
  comes-clones : (xs zs : List X) (y : X) (l r : Option X) → AllZip is_clone xs zs
      → Comes (λ u v. u ≡ v) (element_at cmp xs y) l r → Comes is_clone (element_at cmp zs y) l r
  comes-clones [] [] y l r z h = tt
  comes-clones (x ∷ xs) (w ∷ zs) y l r z h = grind (arith, comes-clones xs zs y l r z.1)
  comes-clones x u y l r z h = absurd z

  -- clones of the boundaries of what f makes
  pub cloned-intervals : (f : Bool → Bool → Bool) (a b : Intervals X) (xs zs : List X) (below : Bool) → AllZip is_clone xs zs
      → IsIntervalsOf cmp (λ u v. u ≡ v) f a b (intervals xs below) → IsIntervalsOf cmp is_clone f a b (intervals zs below)
  cloned-intervals f a b xs zs below z h = grind (arith, clones-ascend, clone-equal, toggled-alike cmp is_clone alike below xs zs, comes-clones)

  -- ---- the walk

  module _ (f : Bool → Bool → Bool) {M N : Type 0} (left right : M → List X) (in_a in_b : M → Bool) (built : M → List X)
      (name : M → N) where
    abbrev pub walk : Allows M X X
    walk = allows left right (passes is_clone f in_a in_b built name left right)

    -- what was built between two states are clones of ks
    abbrev Adds : List X → M → M → Type 0
    Adds ks s t = Extends is_clone ks (built s) (built t) × (name t ≡ name s)

    zip-append : (xs ys zs ws : List X) → AllZip is_clone xs zs → AllZip is_clone ys ws → AllZip is_clone (xs ++ ys) (zs ++ ws)
    zip-append [] ys [] ws p q = q
    zip-append (x ∷ xs) ys (z ∷ zs) ws p q = (p.0, zip-append xs ys zs ws p.1 q)
    zip-append x ys y ws p q = absurd p

    adds-append : (ks ls : List X) (s u t : M) → Adds ks s u → Adds ls u t → Adds (ks ++ ls) s t
    adds-append ks ls s u t p q = grind (arith, zip-append ks ls p.0.added q.0.added p.0.come q.0.come, append_assoc)

    adds-built : (c : Bool) (all xs rest : List X) (s t : M) → all ≡ xs ++ rest → name t ≡ name s
        → Built is_clone all (length xs) c (built s) (built t) → Adds (all_if c xs) s t
    adds-built c all xs rest s t e n h = grind (arith, take-append_seam, append-nil)

    -- what is kept of the events behind a state is what a run keeps, and then what is kept behind that
    adds-run : (s u : M) (run : Run X X) (es : List (Event X X)) → Step walk s run u
        → (ks : List X) × Adds ks s u × (kept f (in_a s) (in_b s) (run_events run ++ es) ≡ ks ++ kept f (in_a u) (in_b u) es)
    adds-run s u (of_left xs) es w =
        (_, adds-built _ (left s) xs (left u) s u w.front.1 w.allowed.1 w.allowed.4, grind (arith, kept-of_left))
    adds-run s u (of_right ys) es w =
        (_, adds-built _ (right s) ys (right u) s u w.front.2 w.allowed.1 w.allowed.4, grind (arith, kept-of_right))
    adds-run s u (of_both x y) es w = (_, adds-built _ (left s) (x ∷ []) (left u) s u w.front.0 w.allowed.1 w.allowed.4, grind arith)

    -- what is kept of the events behind a state comes behind what the runs before it kept
    adds-steps : (s t : M) (runs : List (Run X X)) → Steps walk s runs t → Adds (kept f (in_a s) (in_b s) (events runs)) s t
    adds-steps s t [] e = grind (arith, append-nil)
    adds-steps s t (run ∷ runs) w =
        let p = adds-run s w.0 run (events runs) w.1 in
        subst (λ l. Adds l s t) (sym p.2) (adds-append _ _ s w.0 t p.1 (adds-steps w.0 t runs w.2))

    -- no event stops the walk
    goes-on : (s t : M) (run : Run X X) → IsAllowed walk s run (Ok false) t → ⊥
    goes-on s t run h = grind arith

    -- a walk that was not refused leaves what f makes of the two sets
    pub walked-intervals : (s t : M) (c : List X)
        → Finishes walk (both_sides cmp) s t ⊎ Stops walk (both_sides cmp) s (Ok false) t
        → built s ≡ [] → (name t ≡ name s → c ≡ built t)
        → IsIntervalsOf cmp is_clone f (intervals (left s) (in_a s)) (intervals (right s) (in_b s))
        (intervals c (f (in_a s) (in_b s)))
    walked-intervals s t c (inl w) e k =
        let p = adds-steps s t w.runs w.steps in
        cloned-intervals f (intervals (left s) (in_a s)) (intervals (right s) (in_b s)) _ c (f (in_a s) (in_b s))
        (subst (λ l. AllZip is_clone (kept f (in_a s) (in_b s) (events w.runs)) l)
        (sym (k p.1 ∙ p.0.items ∙ ap (λ l. l ++ p.0.added) e)) p.0.come)
        (kept-intervals cmp total f (intervals (left s) (in_a s)) (intervals (right s) (in_b s)) (events w.runs) w.script)
    walked-intervals s t c (inr w) e k = absurd (goes-on w.before t w.last w.allowed)
