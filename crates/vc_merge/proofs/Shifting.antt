-- Elements that move within a list, and what a merge of two parts of a list shows of them.
use Rattle.std.proofs.Common.{◌≡◌, ℕ, ◌+◌, ◌-◌, ◌<◌, ◌≤◌, List, ◌++◌, length, take, drop, get_or, set, sym}
use Rattle.std.proofs.Common.{ap, ◌∙◌, arith, rules, drop-drop}
use native.Mathlib.Numerals.{unary_clauses}
use Rattle.std.proofs.lemmas.List.{same_lists, places, drop-set-add, drop-set-lt, take-set-le, take-take, drop-take}
use Rattle.std.specs.List.{SwappedAt}
use borrow.Rule.Slice.PartMut.{put_mid}
use Rattle.vc_merge.specs.MovesDown.{MovesDown}
use Rattle.vc_merge.specs.Shifts.{MovesUp, Turns, Trades}
use Rattle.vc_merge.proofs.MovesDownLemmas.{element, MovesDown-none, MovesDown-next}

module _ {X : Type 0} where
  -- ---- parts of a list

  -- how many there are at most from s up to e
  pub part-at_most : (xs : List X) (s e n : ℕ) → n ≤ length (take (e - s) (drop s xs)) → n ≤ e - s
  part-at_most xs s e n h = grind (arith, places)

  -- what is left of a part, once n were passed
  pub part-drop : (xs : List X) (s e n : ℕ) → n ≤ e - s → take (e - (s + n)) (drop (s + n) xs) ≡ drop n (take (e - s) (drop s xs))
  part-drop xs s e n h = same_lists _ _ (search (rules, places)) (λ k d h. grind (arith, places))

  -- a part of a part
  part-part : (xs : List X) (a b s e : ℕ) → a ≤ s → s ≤ e → e ≤ b
      → take (e - s) (drop (s - a) (take (b - a) (drop a xs))) ≡ take (e - s) (drop s xs)
  part-part xs a b s e h i j =
      grind (arith, drop-take (s - a) (b - s) (drop a xs), drop-drop (s - a) a xs, take-take (e - s) (b - s) (drop s xs))

  -- ---- calls on slices

  -- a run moved down by a turn
  pub Turns-turned : (xs ys : List X) (at next n : ℕ) → at ≤ next → next + n ≤ length xs
      → ys ≡ drop (next - at) (take (next + n - at) (drop at xs)) ++ take (next - at) (take (next + n - at) (drop at xs))
      → Turns xs at next n (put_mid at (next + n - at) xs ys)
  Turns-turned xs ys at next n low within e =
      record {
        same_length = rw e (search (rules, places));
        front = rw e (same_lists _ _ (search (rules, places)) (λ k d h. grind (arith, places)));
        moved = rw e (same_lists _ _ (search (rules, places)) (λ k d h. grind (arith, places)));
        rest = rw e (same_lists _ _ (search (rules, places)) (λ k d h. grind (arith, places)));
      }

  -- the elements up to end moved up to the place `next` by a turn
  pub MovesUp-turned : (xs ys : List X) (start end next : ℕ) → start ≤ end → end ≤ next → next ≤ length xs
      → ys ≡ drop (end - start) (take (next - start) (drop start xs)) ++ take (end - start) (take (next - start) (drop start xs))
      → MovesUp xs start end next (put_mid start (next - start) xs ys)
  MovesUp-turned xs ys start end next low high within e =
      let whole : end + (next - end) ≡ next = omega arith in
      let t = Turns-turned xs ys start end (next - end) low (omega arith) (rw whole e) in
      let front : take start (put_mid start (next - start) xs ys) ≡ take start xs =
      rw e (same_lists _ _ (search (rules, places)) (λ k d h. grind (arith, places))) in
      grind (arith, t, front)

  -- the elements from `at` on moved down to the place `kept` by a turn
  pub MovesDown-turned : (xs ys : List X) (kept at n : ℕ) → kept ≤ at → at + n ≤ length xs
      → ys ≡ drop (at - kept) (take (at + n - kept) (drop kept xs)) ++ take (at - kept) (take (at + n - kept) (drop kept xs))
      → MovesDown xs kept at n (put_mid kept (at + n - kept) xs ys)
  MovesDown-turned xs ys kept at n low within e = grind (arith, Turns-turned xs ys kept at n low within e)

  -- the elements up to end moved up by a trade, where the gap is long enough
  pub MovesUp-swapped : (xs front back sub other : List X) (start end next : ℕ) → start ≤ end → end ≤ next
      → end - start ≤ next - end → next ≤ length xs
      → front ≡ take (next - (end - start)) xs → back ≡ drop (next - (end - start)) xs → sub
      ≡ take (end - start) back → other ≡ take (end - start) (drop start front)
      → MovesUp xs start end next (put_mid start (end - start) front sub ++ (other ++ drop (end - start) back))
  MovesUp-swapped xs front back sub other start end next low high apart within a b c d =
      rw (d, c, b, a) record {
        same_length = search (rules, places);
        front = same_lists _ _ (search (rules, places)) (λ k d h. grind (arith, places));
        moved = same_lists _ _ (search (rules, places)) (λ k d h. grind (arith, places));
        rest = same_lists _ _ (search (rules, places)) (λ k d h. grind (arith, places));
      }

  -- two runs changed places, each in its part of the list
  pub Trades-swapped : (xs front back sub other : List X) (at next n : ℕ) → at + n ≤ next → next + n ≤ length xs
      → front ≡ take next xs → back ≡ drop next xs
      → sub ≡ take n back → other ≡ take (at + n - at) (drop at front)
      → Trades xs at next n (put_mid at (at + n - at) front sub ++ (other ++ drop n back))
  Trades-swapped xs front back sub other at next n apart within a b c d =
      let count : at + n - at ≡ n = omega arith in
      rw (d, c, b, a, count) record {
        same_length = search (rules, places);
        front = same_lists _ _ (search (rules, places)) (λ k d h. grind (arith, places));
        between = same_lists _ _ (search (rules, places)) (λ k d h. grind (arith, places));
        rest = same_lists _ _ (search (rules, places)) (λ k d h. grind (arith, places));
      }

  -- a part before the place
  pub part-before : (xs : List X) (s e i : ℕ) (x : X) → s ≤ i → e ≤ i → take (e - s) (drop s (set xs i x))
      ≡ take (e - s) (drop s xs)
  part-before xs s e i x h k = grind (arith, drop-set-add s xs (i - s) x, take-set-le (e - s) (drop s xs) (i - s) x)

  -- an element changed places with one before it
  pub Trades-one : (xs ys : List X) (at next : ℕ) → at < next → next < length xs → length ys ≡ length xs
      → SwappedAt xs ys at next → Trades xs at next 1 ys
  Trades-one xs ys at next apart within long swapped =
      let d = element xs next within in let x = get_or xs next d in
      let moved = MovesDown-next xs xs ys at next 0 apart (omega arith) long (MovesDown-none xs at next)
      (simp unary_clauses swapped) in
      let kept = part-before (set xs at x) (at + 1) next next (get_or xs at d) in
      grind (arith, moved, swapped.3 d, kept, drop-set-lt (at + 1) xs at x)

  -- ---- what the state shows: xs is its list, with b elements built, those from s to e left of the left part, and those from
  -- next on of the right one; ys is the list afterwards

  module _ (xs ys : List X) (b s e next : ℕ) (hole : b ≤ s) (left : s ≤ e) (gap : e ≤ next) where
    -- once what is left moved up
    pub up-built : MovesUp xs s e next ys → take b ys ≡ take b xs
    up-built moved = grind (arith, take-take b s ys hole, take-take b s xs hole)

    -- once the first n that were left moved down
    pub down : (n : ℕ) → n ≤ e - s → MovesDown xs b s n ys
        → (take (b + n) ys ≡ take b xs ++ take n (take (e - s) (drop s xs)))
        × (take (e - (s + n)) (drop (s + n) ys) ≡ drop n (take (e - s) (drop s xs))) × (drop next ys ≡ drop next xs)
    down n few moved =
        grind (arith, take-take, part-drop, drop-drop (next - (s + n)) (s + n) ys, drop-drop (next - (s + n)) (s + n) xs)

    -- once n of the right part moved into the hole
    pub trade-left : (n : ℕ) → b + n ≤ s → Trades xs b next n ys → take (e - s) (drop s ys) ≡ take (e - s) (drop s xs)
    trade-left n apart traded =
        grind (arith, part-part ys (b + n) next s e apart left gap, part-part xs (b + n) next s e apart left gap)

    -- once n of the right part moved before all that lay between
    pub turn-left : (n : ℕ) → Turns xs b next n ys → take (e + n - (s + n)) (drop (s + n) ys) ≡ take (e - s) (drop s xs)
    turn-left n turned = grind (arith, part-part ys (b + n) (next + n) (s + n) (e + n), part-part xs b next s e)

  -- ---- one event: by how the first elements compare, one of a part changed places with the first one of the hole

  module _ (xs ys : List X) (b s e next : ℕ) (hole : b + 1 ≤ s) (left : s ≤ e) (gap : e ≤ next) (some : 1 ≤ e - s)
      (within : next ≤ length xs) where
    -- one of the left part
    pub passed : Trades xs b s 1 ys → (take (b + 1) ys ≡ take b xs ++ take 1 (take (e - s) (drop s xs))) × (take b ys ≡ take b xs)
        × (take (e - (s + 1)) (drop (s + 1) ys) ≡ drop 1 (take (e - s) (drop s xs))) × (drop next ys ≡ drop next xs)
    passed t =
        let low : b ≤ s = omega arith in let moved : MovesDown xs b s 1 ys = grind arith in
        let front : take b (take b xs ++ take 1 (drop s xs)) ≡ take b xs =
        same_lists _ _ (search (rules, places)) (λ k d h. grind (arith, places)) in
        let d = down xs ys b s e next low left gap 1 some moved in
        (d.0, sym (take-take b (b + 1) ys (omega arith)) ∙ ap (take b) t.front ∙ front, d.1, d.2)
