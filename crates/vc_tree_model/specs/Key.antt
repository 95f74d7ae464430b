-- Keys, which are lists of components: equal keys, what is left after a prefix, and which key comes
-- first.
use Rattle.std.specs.Prelude.{◌≡◌, ℕ, Bool, true, false, if◌then◌else◌, List, [], ◌∷◌, ◌++◌, take, drop, Option, Some, None, IsTrue, ⊤}
use Rattle.std.specs.Ordering.{is_eq}
use Rattle.std.specs.declared.cmp.Ordering.{Ordering}
use Rattle.std.specs.declared.cmp.Ordering.TheVariants.{Less}

module _ {K : Type 0} (cmp : K → K → Ordering) where
  -- whether two keys have the same length, and equal components at every place
  abbrev pub same_key : List K → List K → Bool
  same_key [] [] = true
  same_key [] (y ∷ k) = false
  same_key (x ∷ j) [] = false
  same_key (x ∷ j) (y ∷ k) = if is_eq (cmp x y) then same_key j k else false

  -- what is left of a key after a prefix, and none where the key doesn't start with it
  abbrev pub behind : List K → List K → Option (List K)
  behind [] k = Some k
  behind (x ∷ p) [] = None
  behind (x ∷ p) (y ∷ k) = if is_eq (cmp x y) then behind p k else None

  -- the key k equals the prefix p followed by some rest
  abbrev pub Starts : List K → List K → Type 0
  Starts k p = (rest : List K) × IsTrue (same_key (p ++ rest) k)

  -- k has the lesser first component, or has ended where j continues
  abbrev pub BeginsBelow : List K → List K → Type 0
  BeginsBelow [] [] = ⊥
  BeginsBelow [] (y ∷ j) = ⊤
  BeginsBelow (x ∷ k) [] = ⊥
  BeginsBelow (x ∷ k) (y ∷ j) = cmp x y ≡ Less

  -- at the first place at which the keys differ, k has the lesser component or has ended
  pub record IsLess (k j : List K) : Type 0 where
    pub place : ℕ
    pub before : IsTrue (same_key (take place k) (take place j))
    pub at : BeginsBelow (drop place k) (drop place j)
