-- A loop over a list that asks a test at each element and moves what it accepts to the front.
use Rattle.std.proofs.Common.{◌≡◌, ℕ, suc, ◌+◌, ◌<◌, ◌≤◌, Bool, true, false, cond, List, [], ◌∷◌, ◌++◌, length}
use Rattle.std.proofs.Common.{take, drop, set, get_or, refl, ap, ◌∙◌, arith, append_assoc, add-one}
use Rattle.std.proofs.Common.{drop-cons}
use Rattle.std.proofs.lemmas.List.{append-nil, length-set, drop_all, drop-set-lt, take-set, take-set-le, take_more_set}
use Rattle.std.specs.List.{SwappedAt, refill}
use Rattle.smallvec.proofs.SmallVecLemmas.{items-with_items}
use Rattle.std.specs.List.Retain.{IsFiltered}

module _ {S X : Type 0} (R : S → X → Bool → S → Type 0) where
  -- the test began as s₀, at the list xs, and has been asked up to i. It is s now, and the first k of ys are what it accepted
  pub record KeepsInFront (s₀ : S) (xs : List X) (s : S) (ys : List X) (k i : ℕ) : Type 0 where
    pub behind : k ≤ i
    pub long : length ys ≡ length xs
    pub rest : drop i ys ≡ drop i xs
    pub going : (zs : List X) → IsFiltered R s (drop i xs) zs → IsFiltered R s₀ xs (take k ys ++ zs)

  module _ (s₀ : S) (xs : List X) (s t : S) (ys : List X) (k i : ℕ) (x : X) (h : KeepsInFront s₀ xs s ys k i)
      (lt : i < length ys) (is : x ≡ get_or ys i x) where
    -- behind the element at i nothing was moved
    later : drop (i + 1) ys ≡ drop (i + 1) xs
    later = grind (arith, h.rest, h.long, drop-cons ys i x, drop-cons xs i x, add-one i)

    -- the element at i is the first of what is left of the list
    pub KeepsInFront-next : drop i xs ≡ x ∷ drop (i + 1) xs
    KeepsInFront-next = grind (arith, h.rest, h.long, drop-cons ys i x, drop-cons xs i x, add-one i)

    -- one more answer
    asked : (b : Bool) (zs : List X) → R s x b t → IsFiltered R t (drop (i + 1) xs) zs
        → IsFiltered R s₀ xs (take k ys ++ cond b (x ∷ zs) zs)
    asked b zs r f = h.going (cond b (x ∷ zs) zs)
        (rw KeepsInFront-next (b ∷ f.0, f.1, ap suc f.2, (t, r, f.3), grind (arith, f.4)))

    -- an element is refused, and stays where it is
    pub KeepsInFront-refused : R s x false t → KeepsInFront s₀ xs t ys k (i + 1)
    KeepsInFront-refused r = record
        { behind = omega (arith, h.behind); long = h.long; rest = later; going = λ zs f. asked false zs r f }

    -- an element is accepted, and swapped to the end of those in front
    pub KeepsInFront-accepted : (ws : List X) → R s x true t → length ws ≡ length ys → SwappedAt ys ws k i
        → KeepsInFront s₀ xs t ws (k + 1) (i + 1)
    KeepsInFront-accepted ws r same swapped =
        let moved = set ys k (get_or ys i x) in
        let back : drop (i + 1) ws ≡ drop (i + 1) ys =
        grind (arith, h.behind, swapped.3 x, drop-set-lt) in
        let front : take (k + 1) ws ≡ take k ys ++ x ∷ [] = grind (
          arith,
          h.behind,
          swapped.3 x,
          take-set-le (k + 1) moved i (get_or ys k x),
          take_more_set ys k x,
          take_more_set moved k x,
          take-set ys k x,
          length-set ys k x,
        ) in
        record {
          behind = omega (arith, h.behind);
          long = same ∙ h.long;
          rest = back ∙ later;
          going = λ zs f. rw (front, append_assoc (take k ys) (x ∷ []) zs) (asked true zs r f);
        }

  -- all were asked
  pub KeepsInFront-all : (s₀ : S) (xs : List X) (s : S) (ys : List X) (k i : ℕ) → KeepsInFront s₀ xs s ys k i
      → length xs ≤ i → IsFiltered R s₀ xs (take k ys)
  KeepsInFront-all s₀ xs s ys k i h le =
      rw (append-nil (take k ys)) at (h.going [] (rw (drop_all i xs le) ([], s, refl, refl, refl)))

-- a list is shortened to its first k elements, once it was written through a slice of the same length
pub front-refilled : {X : Type 0} (xs ys : List X) (k : ℕ) → k ≤ length ys → length ys ≡ length xs
    → take k (refill (length xs) xs ys) ≡ take k ys
front-refilled xs ys k le same = ap (take k) (items-with_items (record { items = xs; capacity = 0 }) ys same)
