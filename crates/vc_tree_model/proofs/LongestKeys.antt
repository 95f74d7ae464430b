-- The longest key of a map that is a prefix of a key, by its length: a cover by values that carry the lengths of their keys.
--     cover-value        the value with the length is the cover
--     longest-at        this many components of the key are the longest key that is a prefix of it
use Rattle.std.proofs.Common.{◌≡◌, ℕ, suc, ◌+◌, ◌≤◌, [], ◌∷◌, List, Option, None, Some, length, take, sym}
use Rattle.std.proofs.Common.{ap, ◌∙◌, inl, inr, arith}
use Rattle.std.specs.Cmp.{IsTotalOrder}
use Rattle.std.specs.Option.{option_map}
use Rattle.std.specs.declared.cmp.Ordering.{Ordering}
use Rattle.vc_tree_model.specs.Cover.{cover, IsLongestCover}
use Rattle.vc_tree_model.specs.Sized.{beside, sized}
use Rattle.vc_tree_model.proofs.Covering.{Respects, respects-behind, longest-next, longest-empty, only-empty, else-some}
use Rattle.vc_tree_model.proofs.CoverNodes.{cover-equal}

-- without the number
beside-value : {W : Type 0} (n : ℕ) (o : Option W) → option_map (λ b. b.1) (beside n o) ≡ o
beside-value n o = grind arith

-- the number and the value are those that stand there
beside-is : {W : Type 0} (n m : ℕ) (o : Option W) (w : W) → beside n o ≡ Some (m, w) → (m ≡ n) × (o ≡ Some w)
beside-is n m o w e = grind arith

module _ {W U : Type 0} (g : W → U) where
  -- the cover by turned values is the cover, turned
  cover-turned : {K : Type 0} (q : List K → Option W) (k : List K)
      → option_map g (cover q k) ≡ cover (λ r. option_map g (q r)) k
  cover-turned q (x ∷ k) = grind (arith, cover-turned (λ r. q (x ∷ r)) k)
  cover-turned q [] = grind arith

module _ {K W : Type 0} where
  -- the value of the cover is the cover
  pub cover-value : (n : ℕ) (q : List K → Option W) (k : List K)
      → option_map (λ b. b.1) (cover (sized n q) k) ≡ cover q k
  cover-value n q k = grind (arith, cover-turned, cover-equal, beside-value)

  -- behind one component
  cover-next : (n : ℕ) (q : List K → Option W) (x : K) (k : List K)
      → cover (λ r. sized n q (x ∷ r)) k ≡ cover (sized (suc n) (λ r. q (x ∷ r))) k
  cover-next n q x k = grind arith

  -- so many components of the key, behind n of them, are the longest key that is a prefix, and this is its value
  pub record IsLongestAt (cmp : K → K → Ordering) (n : ℕ) (q : List K → Option W) (k : List K) (m : ℕ) (w : W) : Type 0 where
    pub count : ℕ
    pub behind : m ≡ n + count
    pub within : count ≤ length k
    pub longest : IsLongestCover cmp q k (take count k) w

  module _ (cmp : K → K → Ordering) (o : IsTotalOrder cmp) where
    -- one component more stands before
    longest-behind : (n : ℕ) (q : List K → Option W) → Respects cmp o q → (x : K) (k : List K) (m : ℕ) (w : W)
        → IsLongestAt cmp (suc n) (λ r. q (x ∷ r)) k m w → IsLongestAt cmp n q (x ∷ k) m w
    longest-behind n q r x k m w l = record {
      count = suc l.count;
      behind = omega (arith, l.behind);
      within = omega (arith, l.within);
      longest = longest-next cmp o q r x k (take l.count k) w l.longest;
    }

    -- what covers a key beside a length is the longest key that is a prefix, by its length
    pub longest-at : (n : ℕ) (q : List K → Option W) → Respects cmp o q → (k : List K) (m : ℕ) (w : W)
        → cover (sized n q) k ≡ Some (m, w) → IsLongestAt cmp n q k m w
    longest-at n q r [] m w e = grind (arith, beside-is (n + 0) m (q []) w e, only-empty cmp o q)
    longest-at n q r (x ∷ k) m w e =
        elim (else-some (cover (λ s. sized n q (x ∷ s)) k) (sized n q []) (m, w) e) [
          | inl h ↦ longest-behind n q r x k m w
              (longest-at (suc n) (λ s. q (x ∷ s)) (respects-behind cmp o q r x) k m w (sym (cover-next n q x k) ∙ h))
          | inr h ↦ (let is = beside-is (n + 0) m (q []) w h.1 in
              let none : cover (λ s. q (x ∷ s)) k ≡ None =
              sym (cover-value (suc n) (λ s. q (x ∷ s)) k)
              ∙ ap (option_map (λ b. b.1)) (sym (cover-next n q x k) ∙ h.0) in
              record {
                count = 0;
                behind = is.0;
                within = omega arith;
                longest = longest-empty cmp o q r x k w none is.1;
              })
        ]
