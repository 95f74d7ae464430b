-- Membership by boundaries: of boundaries at or below a place, and of boundaries above it.
--     toggled-not, toggled-above, toggled-all        of the answer negated, of boundaries above, and of boundaries at or below
--     toggled-cut        by how many boundaries are at or below
use Rattle.std.proofs.Common.{◌≡◌, ℕ, Bool, true, false, not, List, [], ◌∷◌, ◌++◌, length, take, drop}
use Rattle.std.proofs.Common.{refl, ◌∙◌, arith}
use Rattle.std.proofs.lemmas.List.{take-append-drop, length-take-le}
use Rattle.std.specs.List.{AllByRecursion, AllZip}
use Rattle.std.specs.Ordering.{is_le}
use Rattle.std.specs.declared.cmp.Ordering.{Ordering}
use Rattle.vc_merge.specs.Cuts.{IsCut}
use Rattle.vc_sets.specs.SetOf.{exactly_one}
use Rattle.vc_intervals.specs.Boundaries.{toggled}
use Rattle.vc_intervals.specs.Events.{odd}

module _ {X : Type 0} (cmp : X → X → Ordering) where
  -- the answer below toggled is the answer toggled
  pub toggled-not : (b : Bool) (ts : List X) (x : X) → toggled cmp (not b) ts x ≡ not (toggled cmp b ts x)
  toggled-not b [] x = refl
  toggled-not b (t ∷ ts) x = grind (arith, toggled-not b ts x)

  -- boundaries that compare alike toggle the answer at the same places
  pub toggled-alike : (R : X → X → Type 0) → ((v w : X) → R v w → (x : X) → cmp v x ≡ cmp w x) → (b : Bool) (ts us : List X) (x : X)
      → AllZip R ts us → toggled cmp b ts x ≡ toggled cmp b us x
  toggled-alike R alike b [] [] x z = refl
  toggled-alike R alike b (t ∷ ts) (u ∷ us) x z = grind (arith, alike t u z.0 x, toggled-alike R alike b ts us x z.1)
  toggled-alike R alike b y v x z = absurd z

  -- boundaries above a place change nothing there
  pub toggled-above : (b : Bool) (ts : List X) (x : X) → AllByRecursion (λ t. is_le (cmp t x) ≡ false) ts → toggled cmp b ts x ≡ b
  toggled-above b [] x p = refl
  toggled-above b (t ∷ ts) x p = grind (arith, toggled-above b ts x p.1)

  pub toggled-append : (b : Bool) (ts us : List X) (x : X) → toggled cmp b (ts ++ us) x ≡ toggled cmp (toggled cmp b us x) ts x
  toggled-append b [] us x = refl
  toggled-append b (t ∷ ts) us x = grind (arith, toggled-append b ts us x)

  -- boundaries at or below a place toggle the answer there, each once
  pub toggled-all : (b : Bool) (ts : List X) (x : X) → AllByRecursion (λ t. is_le (cmp t x) ≡ true) ts
      → toggled cmp b ts x ≡ exactly_one (odd (length ts)) b
  toggled-all b [] x p = refl
  toggled-all b (t ∷ ts) x p = grind (arith, toggled-all b ts x p.1)

  pub toggled-passed : (b : Bool) (ps qs : List X) (x : X) → AllByRecursion (λ t. is_le (cmp t x) ≡ true) ps
      → toggled cmp b (ps ++ qs) x ≡ exactly_one (odd (length ps)) (toggled cmp b qs x)
  toggled-passed b ps qs x h = toggled-append b ps qs x ∙ toggled-all (toggled cmp b qs x) ps x h

  -- the first k boundaries are at or below a place, and the others above it
  pub toggled-cut : (b : Bool) (ts : List X) (k : ℕ) (x : X) → IsCut (λ t. is_le (cmp t x)) ts k
      → toggled cmp b ts x ≡ exactly_one (odd k) b
  toggled-cut b ts k x c =
      let front = toggled-passed b (take k ts) (drop k ts) x c.pass in
      let back = toggled-above b (drop k ts) x c.fail in
      grind (arith, take-append-drop k ts, length-take-le k ts c.within, front, back)
