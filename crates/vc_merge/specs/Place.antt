-- Where something that is sought is in a list, or would be. `side` says how each element compares
-- with it: `Less` before it, `Greater` after it.
use Rattle.std.specs.Prelude.{◌≡◌, ℕ, zero, suc, ◌+◌, ◌-◌, ◌<◌, ◌≤◌, Bool, false, List, [], ◌∷◌, length, take, drop, Result, Ok, Err, ◌⊎◌}
use Rattle.std.specs.Bool.{MatchBool}
use Rattle.std.specs.List.{AllByRecursion, HoldsAt}
use Rattle.std.specs.Ordering.{is_gt}
use Rattle.std.specs.declared.cmp.Ordering.{Ordering}
use Rattle.std.specs.declared.cmp.Ordering.TheVariants.{Less, Equal, Greater}

-- the place of an answer, of an element that is equal or of a gap
abbrev pub place_of : Result ℕ ℕ → ℕ
place_of (Ok i) = i
place_of (Err i) = i

module _ {X : Type 0} (side : X → Ordering) where
  -- first those that are less, then at most one that is equal, then those that are greater: each is
  -- less, or all after it are greater
  abbrev pub IsOrdered : List X → Type 0
  IsOrdered [] = Unit {0}
  IsOrdered (x ∷ xs) = ((side x ≡ Less) ⊎ AllByRecursion (λ y. side y ≡ Greater) xs) × IsOrdered xs

  -- the element at place i is equal, those before it are less, those after it greater
  pub record IsFound (xs : List X) (i : ℕ) : Type 0 where
    pub within : i < length xs
    pub equal : HoldsAt (λ y. side y ≡ Equal) xs i
    pub less : AllByRecursion (λ y. side y ≡ Less) (take i xs)
    pub greater : AllByRecursion (λ y. side y ≡ Greater) (drop (i + 1) xs)

  -- none is equal: the first i are less, the others greater
  pub record IsGap (xs : List X) (i : ℕ) : Type 0 where
    pub within : i ≤ length xs
    pub less : AllByRecursion (λ y. side y ≡ Less) (take i xs)
    pub greater : AllByRecursion (λ y. side y ≡ Greater) (drop i xs)

  -- at Ok the place of the element that is equal, at Err the gap where one would be
  abbrev pub IsPlace : List X → Result ℕ ℕ → Type 0
  IsPlace xs (Ok i) = IsFound xs i
  IsPlace xs (Err i) = IsGap xs i

  -- ---- how far a search has come. No public clause cites what follows.

  -- the elements outside of the n from `start` on are known: less before these, greater after them
  pub record IsNarrowed (xs : List X) (start n : ℕ) : Type 0 where
    pub within : start + n ≤ length xs
    pub less : AllByRecursion (λ y. side y ≡ Less) (take start xs)
    pub greater : AllByRecursion (λ y. side y ≡ Greater) (drop (start + n) xs)

  -- the rest in which the search continues: the elements from `start` on, as many as it has
  pub record IsRest (xs : List X) (start : ℕ) (rest : List X) : Type 0 where
    pub part : rest ≡ take (length rest) (drop start xs)
    pub narrowed : IsNarrowed xs start (length rest)

  -- the element before `start` is equal
  pub record IsPassed (xs : List X) (start n : ℕ) : Type 0 where
    pub within : start + n ≤ length xs
    pub some : 0 < start
    pub equal : HoldsAt (λ y. side y ≡ Equal) xs (start - 1)

  -- the search continues in the n elements from `start` on, and has found an equal one or not
  abbrev pub IsSearched : List X → ℕ → ℕ → Bool → Type 0
  IsSearched xs start n found = MatchBool found (IsPassed xs start n) (IsNarrowed xs start n)

  -- 1 where the element at place i is not greater, and 0 where it is
  abbrev pub IsReached : List X → ℕ → ℕ → Type 0
  IsReached xs i zero = HoldsAt (λ y. side y ≡ Greater) xs i
  IsReached xs i (suc n) = (n ≡ 0) × HoldsAt (λ y. is_gt (side y) ≡ false) xs i
