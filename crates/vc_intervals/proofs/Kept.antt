-- What the events of two lists of boundaries keep: the boundaries of what f says of both.
use Rattle.std.proofs.Common.{◌≡◌, Bool, true, false, not, List, [], ◌∷◌, None}
use Rattle.std.proofs.Common.{refl, arith}
use Rattle.std.specs.List.{AllByRecursion}
use Rattle.std.specs.List.Sorted.{IsStrictlySortedBy}
use Rattle.std.specs.Cmp.{IsTotalOrder}
use Rattle.std.specs.Ordering.{is_le, eq_by_cmp}
use Rattle.std.specs.declared.cmp.Ordering.{Ordering}
use Rattle.std.specs.declared.cmp.Ordering.TheVariants.{Less, Equal}
use Rattle.vc_merge.specs.Ascending.{Ascends, element_at}
use Rattle.vc_merge.specs.Script.{Event, left_alone, right_alone, collision, lefts, rights, place, IsMatched, IsScript}
use Rattle.vc_merge.proofs.ListLemmas.{each-weaker}
use Rattle.vc_merge.proofs.Members.{element_at-none}
use Rattle.vc_sets.specs.Select.{either, both_sides}
use Rattle.vc_intervals.specs.Boundaries.{Intervals, intervals, toggled}
use Rattle.vc_intervals.specs.IntervalsOf.{Comes, IsIntervalsOf}
use Rattle.vc_intervals.specs.Events.{kept}
use Rattle.vc_intervals.proofs.Toggled.{toggled-not, toggled-above}

module _ {X : Type 0} (cmp : X → X → Ordering) (total : IsTotalOrder cmp) (f : Bool → Bool → Bool) where
  -- the events ascend, and each collision is of two equal elements
  abbrev InOrder : List (Event X X) → Type 0
  InOrder es = Ascends (λ d e. both_sides cmp (place d) (place e)) es × AllByRecursion (IsMatched (both_sides cmp)) es

  -- what holds of the place of each event, and of what is equal, holds of what is kept, and of both lists
  each-all : (P : X → Type 0) → ((x y : X) → cmp x y ≡ Equal → P x → P y) → (p q : Bool) (es : List (Event X X))
      → AllByRecursion (IsMatched (both_sides cmp)) es → AllByRecursion (λ e. P (either (place e))) es
      → AllByRecursion P (kept f p q es) × AllByRecursion P (lefts es) × AllByRecursion P (rights es)
  each-all P alike p q [] m h = (tt, tt, tt)
  each-all P alike p q (left_alone x ∷ es) m h = grind (arith, each-all P alike (not p) q es m.1 h.1)
  each-all P alike p q (right_alone y ∷ es) m h = grind (arith, each-all P alike p (not q) es m.1 h.1)
  each-all P alike p q (collision x y ∷ es) m h = grind (arith, alike x y m.0 h.0, each-all P alike (not p) (not q) es m.1 h.1)

  -- what comes behind an event is above its place
  all-later : (p q : Bool) (e : Event X X) (es : List (Event X X)) → InOrder (e ∷ es)
      → AllByRecursion (λ z. cmp (either (place e)) z ≡ Less) (kept f p q es)
      × AllByRecursion (λ z. cmp (either (place e)) z ≡ Less) (lefts es)
      × AllByRecursion (λ z. cmp (either (place e)) z ≡ Less) (rights es)
  unfolding IsStrictlySortedBy
  all-later p q e es o = each-all (λ z. cmp (either (place e)) z ≡ Less) (λ v w h k. grind arith) p q es o.1.1 o.0.0

  kept-ascends : (p q : Bool) (es : List (Event X X)) → InOrder es → Ascends cmp (kept f p q es)
  unfolding IsStrictlySortedBy
  kept-ascends p q [] o = tt
  kept-ascends p q (left_alone x ∷ es) o = grind (arith, all-later (not p) q (left_alone x) es o, kept-ascends (not p) q es (o.0.1, o.1.1))
  kept-ascends p q (right_alone y ∷ es) o = grind (arith, all-later p (not q) (right_alone y) es o, kept-ascends p (not q) es (o.0.1, o.1.1))
  kept-ascends p q (collision x y ∷ es) o =
      grind (arith, all-later (not p) (not q) (collision x y) es o, kept-ascends (not p) (not q) es (o.0.1, o.1.1))

  -- what is kept bounds what f says of both
  abbrev At : X → List (Event X X) → Type 0
  At x es = (p q : Bool) → toggled cmp (f p q) (kept f p q es) x ≡ f (toggled cmp p (lefts es) x) (toggled cmp q (rights es) x)

  at-next : (e : Event X X) (es : List (Event X X)) (x : X) (c : Bool) → is_le (cmp (either (place e)) x) ≡ c → InOrder (e ∷ es)
      → At x es → At x (e ∷ es)
  unfolding IsStrictlySortedBy
  at-next e es x false h o rest p q =
      let equal : (v w : X) → cmp v w ≡ Equal → is_le (cmp v x) ≡ false → is_le (cmp w x) ≡ false = λ v w e k. grind arith in
      let up = each-weaker _ (λ d. is_le (cmp (either (place d)) x) ≡ false) (λ d k. grind arith) es o.0.0 in
      let all = each-all (λ z. is_le (cmp z x) ≡ false) equal p q (e ∷ es) o.1 (h, up) in grind (arith, toggled-above, all)
  at-next (left_alone t) es x true h o rest p q = grind (arith, toggled-not, rest (not p) q)
  at-next (right_alone t) es x true h o rest p q = grind (arith, toggled-not, rest p (not q))
  at-next (collision t u) es x true h o rest p q = grind (arith, toggled-not, rest (not p) (not q))

  at : (es : List (Event X X)) (x : X) → InOrder es → At x es
  unfolding IsStrictlySortedBy
  at [] x o p q = refl
  at (e ∷ es) x o p q = at-next e es x (is_le (cmp (either (place e)) x)) refl o (at es x (o.0.1, o.1.1)) p q

  -- where an event stands at a place, nothing behind it does
  none-later : (p q : Bool) (e : Event X X) (es : List (Event X X)) (x : X) → InOrder (e ∷ es) → eq_by_cmp cmp (either (place e)) x ≡ true
      → (element_at cmp (kept f p q es) x ≡ None) × (element_at cmp (lefts es) x ≡ None)
  none-later p q e es x o h = let a = all-later p q e es o in
      (element_at-none cmp total (either (place e)) x _ a.0 h, element_at-none cmp total (either (place e)) x _ a.1 h)

  -- a boundary that is kept is the left one, where there is one, and else the right one
  comes : (p q : Bool) (es : List (Event X X)) (x : X) → InOrder es
      → Comes (λ v w. v ≡ w) (element_at cmp (kept f p q es) x) (element_at cmp (lefts es) x) (element_at cmp (rights es) x)
  unfolding IsStrictlySortedBy
  comes p q [] x o = tt
  comes p q (left_alone t ∷ es) x o = grind (arith, comes (not p) q es x (o.0.1, o.1.1), none-later (not p) q (left_alone t) es x o)
  comes p q (right_alone t ∷ es) x o = grind (arith, comes p (not q) es x (o.0.1, o.1.1), none-later p (not q) (right_alone t) es x o)
  comes p q (collision t u ∷ es) x o =
      grind (arith, o.1.0, comes (not p) (not q) es x (o.0.1, o.1.1), none-later (not p) (not q) (collision t u) es x o)

  -- what the events of two sets keep is what f makes of them
  pub kept-intervals : (a b : Intervals X) (es : List (Event X X)) → IsScript (both_sides cmp) a.boundaries b.boundaries es
      → IsIntervalsOf cmp (λ v w. v ≡ w) f a b (intervals (kept f a.below b.below es) (f a.below b.below))
  kept-intervals a b es s = grind (arith, kept-ascends, at, comes)
