-- A search in an ordered list: what one comparison tells of the others, and how a search ends.
--     less-before, not-later, greater-behind, greater-from        what is before and after an element
--     narrowed-whole, narrowed-past, narrowed-down        the part that is searched, at first and after a comparison
--     rest-part, ordered-rest, rest-rest        the rest that is searched on
--     half-rest, quarter-rest        after one comparison, and after three
--     searched-half        after one comparison that may find it
--     place-met, place-behind, place-searched, place-equal, place-unequal        the place
--     ordered-ascends        ascending lists are ordered round whatever is sought
use Rattle.std.proofs.Common.{◌≡◌, ℕ, zero, suc, ◌+◌, ◌-◌, ◌*◌, ◌/◌, ◌<◌, ◌≤◌, Bool, cond, true, false, ◌||◌, List, [], ◌∷◌}
use Rattle.std.proofs.Common.{◌++◌, length, take, drop, get_or, length-append, length-drop, append_assoc, Result, Ok, Err, sym}
use Rattle.std.proofs.Common.{arith}
use Rattle.std.proofs.lemmas.List.{drop_at, get_or-drop, get_or-take, length-take-le, take-append-drop, take_at}
use Rattle.std.proofs.lemmas.List.Elements.{at_read}
use Rattle.std.proofs.Math.Seq.{drop-length, take-add, take-append_seam}
use Rattle.std.specs.List.{AllByRecursion, HoldsAt}
use Rattle.std.specs.Int.{from_bool}
use Rattle.std.specs.Cmp.{IsTotalOrder}
use Rattle.std.specs.List.Sorted.{IsStrictlySortedBy}
use Rattle.std.specs.Ordering.{is_gt, is_eq, is_lt}
use Rattle.std.specs.declared.cmp.Ordering.{Ordering}
use Rattle.std.specs.declared.cmp.Ordering.TheVariants.{Less, Equal, Greater}
use Rattle.vc_merge.specs.Ascending.{Ascends}
use Rattle.vc_merge.specs.Place.{IsOrdered, IsFound, IsGap, IsPlace, IsNarrowed, IsRest, IsSearched}
use Rattle.vc_merge.specs.Place.{IsReached, place_of}
use Rattle.vc_merge.proofs.ListLemmas.{each-at, each-append, each-drop, each-front, each-upto}

module _ {X : Type 0} (side : X → Ordering) where
  -- before an element that is not greater all are less
  less-before : (xs : List X) (i : ℕ) → IsOrdered side xs → i < length xs
      → HoldsAt (λ y. is_gt (side y) ≡ false) xs i → AllByRecursion (λ y. side y ≡ Less) (take i xs)
  less-before (x ∷ xs) (suc i) p h e =
      grind (arith, less-before xs i p.1, e x, each-at (λ y. side y ≡ Greater) xs i x)
  less-before xs i p h e = grind arith

  -- what stands in a beginning that is less
  less-at : (xs : List X) (start i : ℕ) (d : X) → AllByRecursion (λ y. side y ≡ Less) (take start xs) → i < start
      → start ≤ length xs → side (get_or xs i d) ≡ Less
  less-at xs start i d p h k =
      grind (arith, each-at (λ y. side y ≡ Less) (take start xs) i d, get_or-take, length-take-le start xs)

  not-later : (xs : List X) (i j : ℕ) → IsOrdered side xs → i < j → j < length xs
      → HoldsAt (λ y. is_lt (side y) ≡ false) xs i → HoldsAt (λ y. is_gt (side y) ≡ false) xs j → ⊥
  not-later [] i j p l h e f = grind arith
  not-later (x ∷ xs) i j p l h e f = grind (arith, e x, less-before, less-at (x ∷ xs) j i x)

  -- behind an element that is not less all are greater, and from one on that is greater
  greater-behind : (xs : List X) (i : ℕ) → IsOrdered side xs → i < length xs
      → HoldsAt (λ y. is_lt (side y) ≡ false) xs i → AllByRecursion (λ y. side y ≡ Greater) (drop (suc i) xs)
  greater-behind (x ∷ xs) (suc i) p h e = greater-behind xs i p.1 (omega arith) e
  greater-behind [] i p h e = grind arith
  greater-behind (x ∷ xs) zero p h e = grind (arith, e x)

  greater-from : (xs : List X) (i k : ℕ) → IsOrdered side xs → i < length xs → HoldsAt (λ y. side y ≡ Greater) xs i
      → i ≤ k → AllByRecursion (λ y. side y ≡ Greater) (drop k xs)
  greater-from (x ∷ xs) (suc i) (suc k) p h e l = greater-from xs i k p.1 (omega arith) e (omega arith)
  greater-from (x ∷ xs) zero k p h e l = each-drop (λ y. side y ≡ Greater) (x ∷ xs) k (grind (arith, e x))
  greater-from xs i k p h e l = grind arith

  -- ---- the part that is searched

  pub narrowed-whole : (xs : List X) → IsNarrowed side xs 0 (length xs)
  narrowed-whole xs = grind (arith, drop-length xs)

  module _ (xs : List X) (p : IsOrdered side xs) (start n : ℕ) (q : IsNarrowed side xs start n) where
    -- behind one that is less
    pub narrowed-past : (i next m : ℕ) (y : X) → i < length xs → y ≡ get_or xs i y → Less ≡ side y → next ≡ suc i
        → start + n ≡ next + m → IsNarrowed side xs next m
    narrowed-past i next m y h e f k l =
        grind (arith, at_read xs (λ z. side z ≡ Less) i y h e, less-before, each-upto (λ z. side z ≡ Less) xs i)

    -- before one that is greater
    pub narrowed-down : (i m : ℕ) (y : X) → i < length xs → y ≡ get_or xs i y → Greater ≡ side y → i ≤ start + m → m ≤ n
        → IsNarrowed side xs start m
    narrowed-down i m y h e f l k =
        grind (arith, at_read xs (λ z. side z ≡ Greater) i y h e, greater-from xs i (start + m) p)

  -- ---- the rest that is searched on

  -- the rest as it is cut off
  rest-part : (xs : List X) (start n : ℕ) → IsNarrowed side xs start n → IsRest side xs start (take n (drop start xs))
  rest-part xs start n q = grind (arith, length-drop, length-take-le)

  -- a rest with what is before it and behind it
  rest-from : (xs f r b : List X) (start : ℕ) → xs ≡ f ++ r ++ b → length f ≡ start → AllByRecursion (λ y. side y ≡ Less) f
      → AllByRecursion (λ y. side y ≡ Greater) b → IsRest side xs start r
  rest-from xs f r b start e l p q = rw e (grind (
    arith,
    drop_at f (r ++ b) start l,
    take_at f (r ++ b) start l,
    take-append_seam r b,
    drop_at (f ++ r) b (start + length r),
    append_assoc f r b,
    length-append,
  ))

  rest-split : (xs : List X) (start : ℕ) (r : List X) → IsRest side xs start r
      → xs ≡ take start xs ++ r ++ drop (start + length r) xs
  rest-split xs start r q = grind (arith, q.part, take-add start (length r) xs, take-append-drop (start + length r) xs)

  ordered-front : (xs ys : List X) → IsOrdered side (xs ++ ys) → IsOrdered side xs
  ordered-front [] ys p = tt
  ordered-front (x ∷ xs) ys p = grind (arith, ordered-front xs ys p.1, each-front (λ y. side y ≡ Greater) xs ys)

  ordered-behind : (xs ys : List X) → IsOrdered side (xs ++ ys) → IsOrdered side ys
  ordered-behind [] ys p = p
  ordered-behind (x ∷ xs) ys p = ordered-behind xs ys p.1

  pub ordered-rest : (xs : List X) (start : ℕ) (rest : List X) → IsOrdered side xs → IsRest side xs start rest
      → IsOrdered side rest
  ordered-rest xs start rest p q = ordered-behind (take start xs) rest
      (ordered-front (take start xs ++ rest) (drop (start + length rest) xs) (rw (← rest-split xs start rest q) p))

  -- what is left of the rest is a rest of the whole list
  pub rest-rest : (xs ys zs : List X) (start passed : ℕ) → IsRest side xs start ys → IsRest side ys passed zs
      → IsRest side xs (start + passed) zs
  rest-rest xs ys zs start passed q r =
      let before = take start xs in let between = take passed ys in
      let behind = drop (passed + length zs) ys in let rest = drop (start + length ys) xs in
      rest-from xs (before ++ between) zs (behind ++ rest) (start + passed)
      (grind (arith, rest-split xs start ys q, rest-split ys passed zs r, append_assoc))
      (grind (arith, length-append before between, length-take-le start xs, length-take-le passed ys))
      (each-append (λ y. side y ≡ Less) before between q.narrowed.less r.narrowed.less)
      (each-append (λ y. side y ≡ Greater) behind rest r.narrowed.greater q.narrowed.greater)

  -- ---- one comparison, and three

  module _ (xs : List X) (p : IsOrdered side xs) where
    pub half-rest : (half r m : ℕ) → 2 ≤ length xs → half ≡ length xs / 2 → m ≡ length xs - half
        → IsReached side xs half r → IsRest side xs (r * half) (take m (drop (r * half) xs))
    half-rest half r m h e f reached = rest-part xs (r * half) m
        (grind (arith, narrowed-whole xs, less-before xs half p, greater-from xs half m p))

    pub quarter-rest : (quarter m a b c : ℕ) → 4 ≤ length xs → quarter ≡ length xs / 4 → m ≡ length xs - quarter * 3
        → IsReached side xs quarter a → IsReached side xs (quarter * 2) b → IsReached side xs (quarter * 3) c
        → IsRest side xs ((a + b + c) * quarter) (take m (drop ((a + b + c) * quarter) xs))
    quarter-rest quarter m a b c h e f ra rb rc = rest-part xs ((a + b + c) * quarter) m
        (grind (
          arith,
          narrowed-whole xs,
          less-before,
          greater-from xs quarter m p,
          greater-from xs (quarter * 2) (quarter + m) p,
          greater-from xs (quarter * 3) (quarter * 2 + m) p,
          not-later xs quarter (quarter * 2) p,
          not-later xs (quarter * 2) (quarter * 3) p,
        ))

  -- ---- one comparison that may find it

  pub searched-within : (xs : List X) (start n : ℕ) (found : Bool) → IsSearched side xs start n found → start + n ≤ length xs
  searched-within xs start n found q = grind arith

  module _ (xs : List X) (p : IsOrdered side xs) (start n middle m : ℕ) (h : middle + m ≡ start + n) (k : m + m ≤ n)
      (l : n ≤ suc (m + m)) (some : 0 < n) where
    pub searched-half : (found b : Bool) (o : Ordering) (next : ℕ) (y : X) → IsSearched side xs start n found
        → y ≡ get_or xs (middle - 1) y → middle - 1 < length xs → o ≡ side y → next ≡ cond (is_gt o) start middle → b ≡ is_eq o
        → IsSearched side xs next m (found || b)
    searched-half true b o next y q e i f c g =
        let read = at_read xs (λ z. is_gt (side z) ≡ false) (middle - 1) y i e in
        grind (arith, q.equal y, not-later xs (start - 1) (middle - 1) p, read)
    searched-half false b Less next y q e i f c g = grind (arith, narrowed-past xs p start n q (middle - 1) next m y i e f)
    searched-half false b Equal next y q e i f c g =
        grind (arith, at_read xs (λ z. side z ≡ Equal) (middle - 1) y i e (sym f))
    searched-half false b Greater next y q e i f c g = grind (arith, narrowed-down xs p start n q (middle - 1) m y i e f)

  -- ---- the place

  -- an element that was read and is equal
  pub place-met : (xs : List X) (i : ℕ) (y : X) → IsOrdered side xs → i < length xs → y ≡ get_or xs i y → Equal
      ≡ side y → IsFound side xs i
  place-met xs i y p h e f = grind (arith, at_read xs (λ z. side z ≡ Equal) i y h e, less-before xs i p, greater-behind xs i p)

  -- no place is among the elements that are known to be less
  pub place-behind : (xs : List X) (start n : ℕ) (r : Result ℕ ℕ) → IsNarrowed side xs start n → IsPlace side xs r
      → start ≤ place_of r
  place-behind [] start n r q s = grind arith
  place-behind (x ∷ xs) start n (Ok i) q s = grind (arith, less-at (x ∷ xs) start i x, s.equal x)
  place-behind (x ∷ xs) start n (Err i) q s = grind (
    arith,
    less-at (x ∷ xs) start i x,
    each-at (λ y. side y ≡ Greater) (drop i (x ∷ xs)) 0 x,
    get_or-drop i (x ∷ xs) 0 x,
    length-drop i (x ∷ xs),
  )

  pub place-searched : (xs : List X) (start n : ℕ) (found : Bool) → IsOrdered side xs
      → IsSearched side xs start n found → found ≡ true → IsFound side xs (start - 1)
  place-searched xs start n found p q f = grind (arith, less-before, greater-behind)

  -- where one element is left to search, and compares as `o`
  module _ (xs : List X) (start : ℕ) (one : List X) (p : IsOrdered side xs) (q : IsRest side xs start one)
      (h : length one ≡ 1) (y : X) (e : y ≡ get_or one 0 y) where
    at-start : y ≡ get_or xs start y
    at-start = grind (arith, get_or-take, get_or-drop)

    pub place-equal : (o : Ordering) → o ≡ side y → is_eq o ≡ true → IsFound side xs start
    place-equal o f g = grind (arith, place-met xs start y p, at-start)

    -- one place further where the element is less
    pub place-unequal : (o : Ordering) (b : Bool) → o ≡ side y → is_eq o ≡ false → b ≡ is_lt o
        → IsGap side xs (start + from_bool b)
    place-unequal Less b f g k =
        grind (arith, at-start, narrowed-past xs p start (length one) q.narrowed start (start + from_bool b) 0 y)
    place-unequal Equal b f g k = grind arith
    place-unequal Greater b f g k = grind (arith, at-start, narrowed-down xs p start (length one) q.narrowed start 0 y)

-- ---- ascending lists are ordered round whatever is sought

module _ {K : Type 0} (cmp : K → K → Ordering) (total : IsTotalOrder cmp) (k : K) where
  module _ {X : Type 0} (key : X → K) where
    all-above : (x : X) → is_lt (cmp (key x) k) ≡ false → (ys : List X)
        → AllByRecursion (λ y. cmp (key x) (key y) ≡ Less) ys → AllByRecursion (λ y. cmp (key y) k ≡ Greater) ys
    all-above x f [] p = tt
    all-above x f (y ∷ ys) p = grind (arith, all-above x f ys p.1)

    -- a list that ascends by its keys is ordered round any key
    pub ordered-ascends : (xs : List X) → Ascends (λ x y. cmp (key x) (key y)) xs → IsOrdered (λ x. cmp (key x) k) xs
    unfolding IsStrictlySortedBy
    ordered-ascends [] p = tt
    ordered-ascends (x ∷ xs) p =
        let above = λ (f : is_lt (cmp (key x) k) ≡ false). all-above x f xs p.0 in (grind (arith, above), ordered-ascends xs p.1)
