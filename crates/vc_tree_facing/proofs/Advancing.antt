-- The trees of a list, one after the other, and the trees that are sought in another one.
--     list-done        all are done
--     inside-next, inside        the only one of a list is next, and is done
use Rattle.std.proofs.Common.{◌≡◌, ℕ, ◌<◌, [], ◌∷◌, ◌++◌, List, Option, None, Some, refl, sym, Bool, append-nil, length, subst}
use Rattle.std.proofs.Common.{option_map, slice_get, arith}
use Rattle.std.specs.Cmp.{IsTotalOrder}
use Rattle.std.specs.List.{AllByRecursion, cons_option}
use Rattle.std.specs.declared.cmp.Ordering.{Ordering}
use Rattle.std.specs.declared.cmp.Ordering.TheVariants.{Less}
use Rattle.vc_tree_model.specs.Canonical.{AreChildren, IsCanonical}
use Rattle.vc_tree_model.specs.Look.{Look}
use Rattle.vc_tree_model.specs.Tree.{Tree, Forest, forest, shortened}
use Rattle.vc_tree_model.specs.Places.{IsCombinedIn}
use Rattle.vc_tree_facing.specs.Doing.{IsDoing, AreNext, IsSaidIn}
use Rattle.vc_tree_facing.specs.Facing.{shortened_in}
use Rattle.vc_tree_facing.specs.Lessening.{left_of, KeepsFront, IsInside}
use Rattle.vc_tree_facing.specs.Made.{IsMadeOf}
use Rattle.vc_tree_facing.specs.Seeking.{side_at, Stops, IsSought}
use Rattle.vc_tree_facing.specs.Sides.{by_component, side_next}
use Rattle.vc_tree_facing.specs.declared.sides.EventSide.TheVariants.{Right}
use Rattle.vc_tree_facing.proofs.Components.{Leads, children-first}
use Rattle.vc_tree_facing.proofs.Leaving.{inner-list}
use Rattle.vc_tree_facing.proofs.Next.{doing-start, done, all-done, left-next, right-next, both-next}

module _ {K V W O A B : Type 0} {cmp : K → K → Ordering} {ta : A → Tree K V} {tb : B → Tree K W} {i j : ℕ} {l : Look cmp W O}
    {R : Option V → O → Option V → Type 0} (nothing : (o : O) → R None o None) {asks : Option V → O → Type 0} {xs : List A}
    {ys : List B} where
  -- one of the right side is passed, of which nothing comes
  pub passed : {ls : List A} {y : B} {rs : List B} {made : List (Tree K V)}
      → IsDoing cmp ta tb i j l R asks xs ys ls (y ∷ rs) made
      → side_next (by_component ta tb i j cmp) (slice_get ls 0) (Some y) ≡ Some Right
      → IsDoing cmp ta tb i j l R asks xs ys ls rs made
  passed {made = made} d z = done (right-next d z refl) {u = None} (sym (append-nil made))
      (record { child = tt; begins = λ y a b. tt; binds = λ k. nothing _ })

  -- once no tree of the left side is left, the others are passed, and what was made is canonical children and what is said of
  -- both
  pub list-done : (rs : List B) {made : List (Tree K V)} → IsDoing cmp ta tb i j l R asks xs ys [] rs made
      → AreChildren cmp (forest made) × IsCombinedIn cmp l R (shortened_in ta i xs) (shortened_in tb j ys) (forest made)
  list-done [] d = all-done d refl (nothing l.none)
  list-done (y ∷ rs) d = list-done rs (passed d refl)

-- ---- a list of one tree

-- the only tree of a list goes on behind a place, and is next, beside the one that was found
pub inside-next : {K V W O A B : Type 0} {cmp : K → K → Ordering} (ta : A → Tree K V) (tb : B → Tree K W) (a : A) (i : ℕ) {j : ℕ}
    (l : Look cmp W O) (R : Option V → O → Option V → Type 0) (asks : Option V → O → Type 0) → IsTotalOrder cmp
    → ((o : O) → R None o None) → asks None l.none → {ys : List B} → IsCanonical cmp (ta a) → i < length (ta a).prefix
    → AreChildren cmp (shortened_in tb j ys) → IsSaidIn cmp ta tb i j l asks (a ∷ []) ys → {found found' : Option B} {rs : List B}
    → ((k : K) → slice_get (ta a).prefix i ≡ Some k → IsSought cmp tb j k ys found rs) → found ≡ found'
    → AreNext cmp ta tb i j l R asks (a ∷ []) ys (Some a) found' [] rs []
inside-next {B = B} {cmp = cmp} ta tb a i {j} l R asks o nothing none {ys} c within b said {found' = found'} {rs} s e =
    let h = rw e at (s f.place f.at) in
    by h.passes.passed found' h.passes.lower h.stops
    (subst (λ zs. IsDoing cmp ta tb i j l R asks (a ∷ []) ys (a ∷ []) zs []) h.passes.is begun)
  where
    begun : IsDoing cmp ta tb i j l R asks (a ∷ []) ys (a ∷ []) ys []
    begun = doing-start o none (inner-list cmp ta a i c within) b said refl

    f : Leads cmp (slice_get (ta a).prefix i) (shortened i (ta a)) []
    f = children-first cmp o i (ta a).prefix begun.left

    -- those that go on with lesser components are passed
    by : (ps : List B) (found : Option B) → AllByRecursion (λ y. side_at cmp tb j f.place y ≡ Less) ps
        → Stops cmp tb j f.place found rs
        → IsDoing cmp ta tb i j l R asks (a ∷ []) ys (a ∷ []) (ps ++ cons_option found rs) []
        → AreNext cmp ta tb i j l R asks (a ∷ []) ys (Some a) found [] rs []
    by (y ∷ ps) found p s d = by ps found p.1 s (passed nothing d (grind (arith, f.at, p.0)))
    by [] None p s d = left-next d (grind (arith, f.at, s)) refl
    by [] (Some y) p s d = both-next d (grind (arith, f.at, s)) refl refl

-- the only tree of a list is done
pub inside : {K V W O A B : Type 0} {cmp : K → K → Ordering} {ta : A → Tree K V} {tb : B → Tree K W} {i j : ℕ} {l : Look cmp W O}
    {R : Option V → O → Option V → Type 0} {asks : Option V → O → Type 0} {a : A} {ys : List B} {found : Option B} {rs : List B}
    → AreNext cmp ta tb i j l R asks (a ∷ []) ys (Some a) found [] rs [] → ((o : O) → R None o None)
    → {says : Option V → O → Option V → Type 0} {w : Option W} {g : Forest K W} → shortened_in tb j ys ≡ g
    → ((v : Option V) (p : O) (z : Option V) → R v p z → says v (l.under w p) z) → says None (l.at w) None
    → {b : Bool} {new : Tree K V} → KeepsFront i (ta a) b new
    → IsMadeOf cmp l R (Some (shortened i (ta a))) (option_map (λ y. shortened j (tb y)) found) (left_of b i new)
    → IsInside cmp l says i (ta a) w g b new
inside n nothing kids down none front m = grind (arith, list-done nothing _ (done n refl m))
