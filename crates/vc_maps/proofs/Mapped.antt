-- Maps whose values are turned into others: one more pair, and what is at each key.
use Rattle.std.proofs.Common.{◌≡◌, ℕ, ◌+◌, ◌<◌, Bool, true, false, cond, List, [], ◌∷◌, ◌++◌, length, take}
use Rattle.std.proofs.Common.{drop, get_or, Option, Some, refl, drop-cons, arith}
use Rattle.std.specs.BTreeMap.{is_at}
use Rattle.std.specs.Map.{keys_of, values_of}
use Rattle.std.specs.declared.cmp.Ordering.{Ordering}
use Rattle.std.proofs.lemmas.List.{map-append, take_more}
use Rattle.vc_joins.specs.Entries.{entry_at}
use Rattle.vc_maps.specs.Mapping.{AnswersInTurn, MapsEntry}

-- the first places of a list, and the next one of a list that is the same from there on
pub take-next : {X : Type 0} (now old : List X) (i : ℕ) (x : X) → drop i now ≡ drop i old → i < length now
    → length now ≡ length old → x ≡ get_or now i x → take (i + 1) old ≡ take i old ++ x ∷ []
take-next now old i x e h l f = grind (arith, take_more old i x, drop-cons now i x, drop-cons old i x)

-- the same of what is left
pub drop-next : {X : Type 0} (now old : List X) (i : ℕ) (x : X) → drop i now ≡ drop i old → i < length now
    → length now ≡ length old → x ≡ get_or now i x → drop i old ≡ x ∷ drop (i + 1) old
drop-next now old i x e h l f = grind (arith, drop-cons now i x, drop-cons old i x)

module _ {F V X : Type 0} (calls : F → V → X → F → Type 0) where
  answers-push : (f : F) (vs : List V) (xs : List X) (mid : F) (v : V) (x : X) (last : F) → AnswersInTurn calls f vs xs mid
      → calls mid v x last → AnswersInTurn calls f (vs ++ v ∷ []) (xs ++ x ∷ []) last
  answers-push f [] [] mid v x last p c = (last, rw p c, refl)
  answers-push f (w ∷ vs) (y ∷ xs) mid v x last p c = (p.0, p.1, answers-push p.0 vs xs mid v x last p.2 c)
  answers-push f vs xs mid v x last p c = absurd p

module _ {K V X : Type 0} where
  -- one more key
  pub keys-mapped : (ps : List (K × V)) (i : ℕ) (p : K × V) (mid new : List (K × X)) (x : X) → take (i + 1) ps
      ≡ take i ps ++ p ∷ [] → new ≡ mid ++ (p.0, x) ∷ [] → keys_of mid ≡ keys_of (take i ps)
      → keys_of new ≡ keys_of (take (i + 1) ps)
  keys-mapped ps i p mid new x more e k =
      cc (map-append (λ e. e.0) mid ((p.0, x) ∷ []), map-append (λ e. e.0) (take i ps) (p ∷ []))

  module _ {F : Type 0} (calls : F → V → X → F → Type 0) where
    -- one more answer
    pub values-mapped : (ps : List (K × V)) (i : ℕ) (p : K × V) (old new : List (K × X)) (f mid last : F) (x : X)
        → take (i + 1) ps ≡ take i ps ++ p ∷ [] → new ≡ old ++ (p.0, x) ∷ []
        → AnswersInTurn calls f (values_of (take i ps)) (values_of old) mid → calls mid p.1 x last
        → AnswersInTurn calls f (values_of (take (i + 1) ps)) (values_of new) last
    values-mapped ps i p old new f mid last x more e a c =
        rw (more, e, map-append (λ e. e.1) (take i ps) (p ∷ []), map-append (λ e. e.1) old ((p.0, x) ∷ []))
        (answers-push calls f (values_of (take i ps)) (values_of old) mid p.1 x last a c)

    -- what stands where the key is that of the first pair, or another one
    head-mapped : (b : Bool) (p : K × V) (x : X) (f g : F) → calls f p.1 x g
        → (found : Option (K × V)) (rest : Option (K × X)) → MapsEntry calls found rest
        → MapsEntry calls (cond b (Some p) found) (cond b (Some (p.0, x)) rest)
    head-mapped true p x f g c found rest h = (f, g, x, c, refl)
    head-mapped false p x f g c found rest h = h

    -- what stands at each key of a map whose values were handed over in turn
    pub entries-mapped : (cmp : K → K → Ordering) (ps : List (K × V)) (qs : List (K × X)) (f last : F) → keys_of qs
        ≡ keys_of ps → AnswersInTurn calls f (values_of ps) (values_of qs) last
        → (k : K) → MapsEntry calls (entry_at cmp ps k) (entry_at cmp qs k)
    entries-mapped cmp [] [] f last e a k = refl
    entries-mapped cmp (p ∷ ps) (q ∷ qs) f last e a k =
        let same : q.0 ≡ p.0 = cc in let rest : keys_of qs ≡ keys_of ps = cc in
        rw same
        (head-mapped (is_at (cmp k) p.0) p q.1 f a.0 a.1 (entry_at cmp ps k) (entry_at cmp qs k)
        (entries-mapped cmp ps qs a.0 last rest a.2 k))
    entries-mapped cmp ps qs f last e a k = absurd a
