-- Members tell the boundaries, and lie in the intervals that are listed.
use Rattle.std.proofs.Common.{◌≡◌, Bool, true, false, not, ◌&&◌, List, [], ◌∷◌, Some, None, sym, ap, ◌∙◌, arith}
use Rattle.std.specs.BTreeMap.Range.{range_contains, is_from_start}
use Rattle.std.specs.Cmp.{IsTotalOrder}
use Rattle.std.specs.List.{AllByRecursion, AllZip, list_any}
use Rattle.std.specs.List.Sorted.{IsStrictlySortedBy}
use Rattle.std.specs.Ordering.{is_le}
use Rattle.std.specs.declared.cmp.Ordering.{Ordering}
use Rattle.std.specs.declared.cmp.Ordering.TheVariants.{Less, Equal}
use Rattle.std.specs.declared.ops.Bound.{Bound}
use Rattle.std.specs.declared.ops.Bound.TheVariants.{Included}
use Rattle.vc_merge.specs.Ascending.{Ascends}
use Rattle.vc_merge.proofs.ListLemmas.{each-weaker}
use Rattle.vc_intervals.specs.Boundaries.{Intervals, toggled, holds, IsEqualIntervals}
use Rattle.vc_intervals.specs.IntervalsOf.{IsIntervalsOf}
use Rattle.vc_intervals.specs.Listed.{listed_from, listed}
use Rattle.vc_intervals.specs.Laws.{MembersTellTheBoundaries}
use Rattle.vc_intervals.proofs.Toggled.{toggled-above, toggled-alike, toggled-not}

module _ {X : Type 0} (cmp : X → X → Ordering) (total : IsTotalOrder cmp) where
  -- what is above a boundary is not at or below it
  not-below : (t : X) (ts : List X) → AllByRecursion (λ z. cmp t z ≡ Less) ts → AllByRecursion (λ z. is_le (cmp z t) ≡ false) ts
  not-below t ts a = grind (arith, each-weaker)

  -- at the first boundary the answer is not that below
  pub at-first : (b : Bool) (t : X) (ts : List X) → AllByRecursion (λ z. cmp t z ≡ Less) ts → toggled cmp b (t ∷ ts) t ≡ not b
  at-first b t ts a = grind (arith, toggled-above, not-below)

  -- ---- equal boundaries

  -- a boundary below the other list, whose answer there is that below
  first-below : (b : Bool) (t : X) (ts us : List X) → AllByRecursion (λ z. cmp t z ≡ Less) ts
      → AllByRecursion (λ z. is_le (cmp z t) ≡ false) us → toggled cmp b (t ∷ ts) t ≡ toggled cmp b us t → ⊥
  first-below b t ts us a h e = grind (arith, at-first, toggled-above)

  pub one-list : (b : Bool) (xs ys : List X) → Ascends cmp xs → Ascends cmp ys
      → ((x : X) → toggled cmp b xs x ≡ toggled cmp b ys x) → AllZip (λ v w. cmp v w ≡ Equal) xs ys
  unfolding IsStrictlySortedBy
  one-list b [] [] p q same = tt
  one-list b [] (w ∷ ys) p q same = absurd (first-below b w ys [] q.0 tt (sym (same w)))
  one-list b (v ∷ xs) [] p q same = absurd (first-below b v xs [] p.0 tt (same v))
  one-list b (v ∷ xs) (w ∷ ys) p q same =
      grind (arith, one-list b xs ys p.1 q.1, first-below b v xs (w ∷ ys) p.0, first-below b w ys (v ∷ xs) q.0, not-below, each-weaker)

  pub members-tell : MembersTellTheBoundaries cmp
  members-tell = record {
    boundaries = λ a b p q e same. record {
      boundaries = one-list a.below a.boundaries b.boundaries p q (λ x. same x ∙ ap (λ c. toggled cmp c b.boundaries x) (sym e));
      below = e;
    };
    members = λ a b e x. toggled-alike cmp _ (λ v w h x. total.congr v w x h) a.below a.boundaries b.boundaries x e.boundaries
        ∙ ap (λ c. toggled cmp c b.boundaries x) e.below;
    below = λ a x h. toggled-above cmp a.below a.boundaries x (not-below x a.boundaries h);
  }

  pub one-made : (from : X → X → Type 0) (f : Bool → Bool → Bool) (a b c d : Intervals X) → IsIntervalsOf cmp from f a b c
      → IsIntervalsOf cmp from f a b d → IsEqualIntervals cmp c d
  one-made from f a b c d p q = grind (arith, members-tell)

  -- ---- the intervals that are listed

  abbrev in_any : X → List (Bound X × Bound X) → Bool
  in_any x ends = list_any (λ e. range_contains cmp e.0 e.1 x) ends

  pub boundaries-above : (t : X) (ts : List X) (x : X) → is_le (cmp t x) ≡ false → AllByRecursion (λ z. cmp t z ≡ Less) ts
      → AllByRecursion (λ z. is_le (cmp z x) ≡ false) ts
  boundaries-above t ts x e a = each-weaker _ (λ z. is_le (cmp z x) ≡ false) (λ z k. grind arith) ts a

  -- where no interval has begun, and where one has that starts before all boundaries
  both-listed : (ts : List X) (x : X) → Ascends cmp ts
      → (in_any x (listed_from None ts) ≡ toggled cmp false ts x)
      × ((start : Bound X) → (is_from_start cmp start x ≡ false → AllByRecursion (λ z. is_le (cmp z x) ≡ false) ts)
      → in_any x (listed_from (Some start) ts) ≡ (is_from_start cmp start x && toggled cmp true ts x))
  unfolding IsStrictlySortedBy
  both-listed [] x a = grind arith
  both-listed (t ∷ ts) x a =
      let rest = both-listed ts x a.1 in (
        grind (arith, rest.1 (Included t), toggled-above cmp false ts x, toggled-not cmp false ts x, boundaries-above t ts x),
        λ start h. grind (arith, rest.0, toggled-above, toggled-not cmp true ts x, boundaries-above t ts x),
      )

  pub listed-holds : (a : Intervals X) → Ascends cmp a.boundaries → (x : X)
      → holds cmp a x ≡ list_any (λ ends. range_contains cmp ends.0 ends.1 x) (listed a)
  listed-holds a p x = grind (arith, both-listed a.boundaries x p)
