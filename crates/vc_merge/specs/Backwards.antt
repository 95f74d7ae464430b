-- An iterator over a list that is walked from the back: whatever comes of what is left comes of the
-- whole list.
use denote.Ref.{Bor}
use Rattle.std.specs.Prelude.{◌≡◌, List, [], ◌∷◌, ◌++◌, Option, Some, None, refl}
use Rattle.std.proofs.Common.{sym, ap, subst, ◌∙◌}
use Rattle.std.specs.Iterator.{YieldsFirst, YieldsLast}
use Rattle.std.specs.List.{filter_map}
use Rattle.std.specs.Slice.Iter.{iter_rest, iter_steps, iter_steps_back}
use Rattle.std.specs.declared.cmp.Ordering.{Ordering}
use Rattle.std.specs.declared.slice.Iter.{Iter}
use Rattle.vc_merge.specs.Ascending.{Ascends}
use Rattle.vc_merge.specs.Yielded.{AscendsAlong, Calls}

module _ {S A X : Type 0} (steps : S → Option A → S → Type 0) (shows : A → X) (rest : S → List X)
    (takes : (s : S) (z : A) (t : S) → steps s (Some z) t → rest s ≡ shows z ∷ rest t)
    (gives : (s : S) (z : A) (t : S) → rest s ≡ shows z ∷ rest t → steps s (Some z) t)
    (rests : (s t : S) → steps s None t → rest s ≡ rest t)
    (longer : X → S → S) (is_longer : (x : X) (t : S) → rest (longer x t) ≡ rest t ++ x ∷ []) where
  -- what comes without the last element comes with it
  lifted : (x : X) (s t u : S) (rs : List (Option A)) → rest s ≡ rest t ++ x ∷ [] → Calls steps t rs u
      → (qs : List (Option A)) × (v : S) × Calls steps s qs v × (filter_map (λ r. r) qs ≡ filter_map (λ r. r) rs)
  lifted x s t u [] e y = ([], s, refl, refl)
  lifted x s t u (None ∷ rs) e y = lifted x s y.0 u rs (e ∙ ap (λ l. l ++ x ∷ []) (rests t y.0 y.1)) y.2
  lifted x s t u (Some z ∷ rs) e y =
      let r = lifted x (longer x y.0) y.0 u rs (is_longer x y.0) y.2 in
      let f = e ∙ ap (λ l. l ++ x ∷ []) (takes t z y.0 y.1) ∙ ap (λ l. shows z ∷ l) (sym (is_longer x y.0)) in
      (Some z ∷ r.0, r.1, (longer x y.0, gives s z (longer x y.0) f, r.2), ap (λ l. z ∷ l) r.3)

  -- what ascends still ascends without the last element
  without_last : (cmp : A → A → Ordering) (x : X) (s t : S) → AscendsAlong steps cmp s → rest s ≡ rest t ++ x ∷ [] → AscendsAlong steps cmp t
  without_last cmp x s t p e = λ rs u y. let q = lifted x s t u rs e y in subst (λ l. Ascends cmp l) q.3 (p q.0 q.1 q.2)

-- what ascends still ascends, by reference
pub along_back : {A : Type 0} (cmp : Bor A → Bor A → Ordering) (s t : Iter A) (r : Option (Bor A)) → AscendsAlong iter_steps cmp s → iter_steps_back s r t → AscendsAlong iter_steps cmp t
along_back cmp s t None p e = subst (AscendsAlong iter_steps cmp) (sym e.1) p
along_back {A} cmp s t (Some x) p e =
    without_last (iter_steps {A = A}) (λ z. z.now) iter_rest (λ s z t h. h) (λ s z t h. h) (λ s t h. ap iter_rest (sym h.1))
    (λ x t. record t { rest = record t.rest { now = iter_rest t ++ x ∷ [] } }) (λ x t. refl) cmp x.now s t p e

-- what ascends still ascends, by value
pub along_last : {A : Type 0} (cmp : A → A → Ordering) (s t : List A) (r : Option A) → AscendsAlong (YieldsFirst (λ rest. rest)) cmp s
    → YieldsLast (λ rest. rest) s r t → AscendsAlong (YieldsFirst (λ rest. rest)) cmp t
along_last cmp s t None p e = subst (AscendsAlong (YieldsFirst (λ rest. rest)) cmp) (e.0 ∙ sym e.1) p
along_last {A} cmp s t (Some x) p e =
    without_last (YieldsFirst {A = A} (λ rest. rest)) (λ z. z) (λ rest. rest) (λ s z t h. h) (λ s z t h. h) (λ s t h. h.0 ∙ sym h.1)
    (λ x t. t ++ x ∷ []) (λ x t. refl) cmp x s t p e
