-- How parts lie in a row of places, and how a write, a read or a run of the places changes them.
use Rattle.std.proofs.Common.{◌≡◌, ℕ, ◌+◌, ◌-◌, ◌<◌, List, [], ◌∷◌, ◌++◌, map, length, take, drop, set, get_or}
use Rattle.std.proofs.Common.{replicate, Option, Some, None, refl, arith, length-append, append_assoc, append-nil}
use Rattle.std.proofs.Common.{take_at, drop_at, drop-drop, take-add}
use Rattle.std.proofs.lemmas.List.{get_or_at, length-map, length-replicate, map-append, replicate-append-replicate}
use Rattle.std.proofs.lemmas.List.{replicate_more, set_at, take-append-drop}
use Rattle.vc_builder.specs.Builder.{Builder, builder}
use Rattle.vc_builder.specs.Places.{front, laid, Turns}

module _ {X : Type 0} where
  -- rows turn in the one place that lies between the others
  turns : (before after : List (Option X)) {cs ds : List (Option X)} {i : ℕ} {c d : Option X} → length before ≡ i
      → cs ≡ before ++ c ∷ after → ds ≡ before ++ d ∷ after → Turns cs ds i c d
  turns before after at was is = record { before = before; after = after; at = at; was = was; is = is }

  -- the one place, and the row once it is written, which is as long
  pub turned : {cs ds : List (Option X)} {i : ℕ} {c d : Option X} → Turns cs ds i c d
      → (i < length cs) × (get_or cs i None ≡ c) × (set cs i d ≡ ds) × (length cs ≡ length ds)
  turned t = grind (arith, length-append, get_or_at, set_at)

  pub length-front : (s : Builder X) → length (front s) ≡ length s.built + s.room
  length-front s = simp (length-append, length-map, length-replicate)

  pub length-laid : (s : Builder X) (tail : ℕ) → length (laid s tail) ≡ length s.built + s.room + length s.rest + tail
  unfolding laid
  length-laid s tail = grind (arith, length-append, length-map, length-replicate)

  pub laid-empty : (room tail n : ℕ) → room + tail ≡ n → laid {X = X} (builder [] [] room) tail ≡ replicate n None
  unfolding laid
  laid-empty room tail n is = grind (arith, replicate-append-replicate {A = Option X} room tail None)

  -- where there is no hole, the first of those that are left lie as built ones
  pub laid-passed : (s : Builder X) (tail n : ℕ) → s.room ≡ 0
      → laid s tail ≡ laid (builder (s.built ++ take n s.rest) (drop n s.rest) 0) tail
  unfolding laid
  laid-passed s tail n none = grind (arith, take-append-drop n s.rest, append-nil, map-append, append_assoc)

  -- where none are left, the built ones lie as those that are left
  pub laid-poured : (s : Builder X) (tail : ℕ) → s.rest ≡ [] → laid s tail ≡ laid (builder [] s.built 0) (s.room + tail)
  unfolding laid
  laid-poured s tail none = rw none (simp (append_assoc, replicate-append-replicate))

  -- a list that is not empty begins with an element
  pub uncons : (l : List X) → 0 < length l → (x : X) × (l ≡ x ∷ drop 1 l)
  uncons [] h = absurd (omega arith)
  uncons (x ∷ l) h = (x, refl)

  module _ (s : Builder X) (tail i : ℕ) where
    -- the places past the hole
    abbrev past : List (Option X)
    past = map Some s.rest ++ replicate tail None

    -- a value goes to the front of the hole, and is built
    pub put-built : (x : X) → 0 < s.room → i ≡ length s.built
        → Turns (laid s tail) (laid (builder (s.built ++ x ∷ []) s.rest (s.room - 1)) tail) i None (Some x)
    unfolding laid
    put-built x some at =
        turns (map Some s.built) (replicate (s.room - 1) None ++ past) (grind (arith, length-map))
        (grind (arith, append_assoc)) (grind (arith, map-append, append_assoc))

    -- a value goes to the end of the hole, and is left
    pub put-rest : (x : X) → i + 1 ≡ length s.built + s.room → 0 < s.room
        → Turns (laid s tail) (laid (builder s.built (x ∷ s.rest) (s.room - 1)) tail) i None (Some x)
    unfolding laid
    put-rest x at some = let low = builder s.built s.rest (s.room - 1) in
        turns (front low) past (grind (arith, length-front low))
        (grind (arith, append_assoc, replicate_more {X = Option X} (s.room - 1) None)) refl

    -- the first of those that are left goes, and the hole is wider
    pub taken : (x : X) → s.rest ≡ x ∷ drop 1 s.rest → i ≡ length s.built + s.room
        → Turns (laid s tail) (laid (builder s.built (drop 1 s.rest) (s.room + 1)) tail) i (Some x) None
    unfolding laid
    taken x e at = let others = map Some (drop 1 s.rest) ++ replicate tail None in
        turns (front s) others (grind (arith, length-front s)) (grind arith)
        (grind (arith, append_assoc, replicate_more {X = Option X} s.room None))

    module _ (at : i ≡ length s.built + s.room) where
      -- they are a run of the places
      pub rest-run : take (length s.rest) (drop i (laid s tail)) ≡ map Some s.rest
      unfolding laid
      rest-run = rw (drop_at (front s) past i (grind (arith, length-front s))) (grind (arith, take_at, length-map s.rest Some))

      -- and may be written over
      pub rest-written : (zs : List X) → take i (laid s tail) ++ (map Some zs ++ drop (i + length s.rest) (laid s tail))
          ≡ laid (builder s.built zs s.room) tail
      unfolding laid
      rest-written zs = rw (
        ← drop-drop (length s.rest) i (laid s tail),
        drop_at (front s) past i (grind (arith, length-front s)),
        take_at (front s) past i (grind (arith, length-front s)),
        drop_at (map Some s.rest) (replicate {A = Option X} tail None) (length s.rest) (length-map s.rest Some),
      )

-- what is left once one more was taken
pub drop_next : {X : Type 0} (i : ℕ) (xs : List X) → drop 1 (drop i xs) ≡ drop (i + 1) xs
drop_next i xs = drop-drop 1 i xs

-- what was taken, with one more
pub take_next : {X : Type 0} (built xs : List X) (i : ℕ) (x : X) → drop i xs ≡ x ∷ drop 1 (drop i xs)
    → (built ++ take i xs) ++ x ∷ [] ≡ built ++ take (i + 1) xs
take_next built xs i x e = grind (arith, append_assoc, take-add i 1 xs)

-- how parts that change lie
pub ruleset laid_steps = (put-built, put-rest, laid-passed, laid-poured)

-- what a loop over those that are left takes of them
pub ruleset loop_steps = (drop_next, take_next)
