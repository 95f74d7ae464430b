-- Values of a map that are written to in place.
--     written-next        one more pair
--     written-keys, entries-written        the keys, and what is at each key
--     refilled        a list that was written through a slice of the whole
use Rattle.std.proofs.Common.{◌≡◌, ℕ, ◌+◌, ◌<◌, Bool, true, false, cond, List, [], ◌∷◌, ◌++◌, length, take, drop, set}
use Rattle.std.proofs.Common.{get_or, Option, Some, refl, sym, ap, ◌∙◌}
use Rattle.std.proofs.Math.Seq.{take-append_seam}
use Rattle.std.proofs.lemmas.List.{length-set, take_more_set}
use Rattle.std.specs.BTreeMap.{is_at}
use Rattle.std.specs.List.{refill}
use Rattle.std.specs.Map.{keys_of}
use Rattle.std.specs.declared.cmp.Ordering.{Ordering}
use Rattle.vc_joins.specs.Entries.{entry_at}
use Rattle.vc_maps.specs.Writing.{WritesEntry, WritesInTurn}
use Rattle.vc_maps.proofs.Mapped.{take-next}

module _ {F K V : Type 0} (writes : F → K → V → V → F → Type 0) where
  -- one more pair
  pub writes-push : (f : F) (ps qs : List (K × V)) (mid : F) (p q : K × V) (last : F) → WritesInTurn writes f ps qs mid
      → writes mid p.0 p.1 q.1 last → q.0 ≡ p.0 → WritesInTurn writes f (ps ++ p ∷ []) (qs ++ q ∷ []) last
  writes-push f [] [] mid p q last h w e = (last, rw h w, e, refl)
  writes-push f (r ∷ ps) (s ∷ qs) mid p q last h w e = (h.0, h.1, h.2, writes-push h.0 ps qs mid p q last h.3 w e)
  writes-push f ps qs mid p q last h w e = absurd h

  -- the pair at the next place is written
  pub written-next : (f : F) (old now : List (K × V)) (i : ℕ) (p q : K × V) (mid last : F) → drop i now ≡ drop i old
      → i < length now → length now ≡ length old → p ≡ get_or now i p → WritesInTurn writes f (take i old) (take i now) mid
      → writes mid p.0 p.1 q.1 last → q.0 ≡ p.0
      → WritesInTurn writes f (take (i + 1) old) (take (i + 1) (set now i q)) last
  written-next f old now i p q mid last rest within long is h w e =
      rw (take-next now old i p rest within long is, take_more_set now i q within)
      (writes-push f (take i old) (take i now) mid p q last h w e)

  -- the keys stay
  pub written-keys : (f : F) (ps qs : List (K × V)) (last : F) → WritesInTurn writes f ps qs last → keys_of qs ≡ keys_of ps
  written-keys f [] [] last h = refl
  written-keys f (p ∷ ps) (q ∷ qs) last h = λ i. h.2 i ∷ written-keys h.0 ps qs last h.3 i
  written-keys f ps qs last h = absurd h

  -- what stands where the key is that of the first pair, or another one
  head-written : (b : Bool) (p : K × V) (v : V) (f g : F) → writes f p.0 p.1 v g
      → (found rest : Option (K × V)) → WritesEntry writes found rest
      → WritesEntry writes (cond b (Some p) found) (cond b (Some (p.0, v)) rest)
  head-written true p v f g w found rest h = (f, v, g, w, refl)
  head-written false p v f g w found rest h = h

  -- what stands at each key
  pub entries-written : (cmp : K → K → Ordering) (f : F) (ps qs : List (K × V)) (last : F)
      → WritesInTurn writes f ps qs last → (k : K) → WritesEntry writes (entry_at cmp ps k) (entry_at cmp qs k)
  entries-written cmp f [] [] last h k = refl
  entries-written cmp f (p ∷ ps) (q ∷ qs) last h k =
      rw h.2
      (head-written (is_at (cmp k) p.0) p q.1 f h.0 h.1 (entry_at cmp ps k) (entry_at cmp qs k)
      (entries-written cmp h.0 ps qs last h.3 k))
  entries-written cmp f ps qs last h k = absurd h

-- what was written through a slice of a whole list is that list
pub refilled : {X : Type 0} (xs ys : List X) → length ys ≡ length xs → refill (length xs) xs ys ≡ ys
refilled xs ys e = ap (λ n. take n (ys ++ drop (length ys) xs)) (sym e) ∙ take-append_seam ys (drop (length ys) xs)

-- the same, where one element was written
pub refilled-set : {X : Type 0} {xs slice : List X} (i : ℕ) {x y : X} → slice ≡ xs → x ≡ y
    → refill (length xs) xs (set slice i x) ≡ set xs i y
refilled-set {xs = xs} i {y = y} e f = rw (e, f) (refilled xs (set xs i y) (length-set xs i y))
