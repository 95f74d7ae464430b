-- Keys: what is left after a prefix, equal keys, and the order on keys.
--     behind-itself, behind-same, behind-of_same, behind-append        what is left behind a prefix
--     same-slice_cmp, same-itself, same-flip, same-trans, same-append, same-prepended        equal keys
--     same-behind, behind-joins, left-behind        equal keys and what is left of one
--     not-before, not-both_before, less-prepended        which of two keys comes first
--     keys-ordered, left-is_rest        the laws on keys
use Rattle.std.proofs.Common.{◌≡◌, ℕ, suc, [], ◌∷◌, ◌++◌, take, drop, List, Option, None, Some, is_some, refl, arith}
use Rattle.std.proofs.Common.{sym, ap, ◌∙◌, true, false, Bool, cond, true≢false}
use Rattle.std.specs.List.{AllZip}
use Rattle.std.specs.declared.cmp.Ordering.{Ordering}
use Rattle.std.specs.declared.cmp.Ordering.TheVariants.{Less, Equal, Greater}
use Rattle.std.specs.Ordering.{is_eq, is_lt, ordering_reverse}
use Rattle.std.specs.Cmp.{IsTotalOrder, Equal-is, tied_itself, eq_by_cmp_equiv}
use Rattle.std.specs.Cmp.Lexicographic.{slice_cmp, lists_total}
use Rattle.vc_tree_model.specs.Key.{same_key, behind, Starts, BeginsBelow, IsLess}
use Rattle.vc_tree_model.specs.Value.{IsKept}
use Rattle.vc_tree_model.specs.Laws.{KeysAreOrdered, LeftBehindIsRest}

-- two tests in a row hold where both do
pub both-true : (a b : Bool) → cond a b false ≡ true → (a ≡ true) × (b ≡ true)
both-true a b h = grind arith

-- a value is not absent
pub none-some : {X : Type 0} {A : Type 0} (x : X) → None ≡ Some x → A
none-some x e = cc

module _ {K : Type 0} (cmp : K → K → Ordering) where
  -- ---- a prefix in two parts

  -- whether what is left of a key, if anything, equals another
  abbrev pub then_same : List K → Option (List K) → Bool
  then_same j None = false
  then_same j (Some rest) = same_key cmp j rest

  -- what is left behind a further prefix
  abbrev pub then_behind : List K → Option (List K) → Option (List K)
  then_behind q None = None
  then_behind q (Some rest) = behind cmp q rest

  -- a key is left behind two prefixes joined where it is left behind one and then the other
  pub behind-append : (p q k : List K) → behind cmp (p ++ q) k ≡ then_behind q (behind cmp p k)
  behind-append (x ∷ p) q (y ∷ k) = grind (arith, behind-append p q k)
  behind-append x q k = grind arith

  -- a key equals two parts joined where the second equals what is left behind the first
  pub same-append : (p j k : List K) → same_key cmp (p ++ j) k ≡ then_same j (behind cmp p k)
  same-append (x ∷ p) j (y ∷ k) = grind (arith, same-append p j k)
  same-append x j k = grind arith

  -- nothing is left of a key behind an equal one
  pub same-behind : (p k : List K) → same_key cmp p k ≡ true → behind cmp p k ≡ Some []
  same-behind (x ∷ p) (y ∷ k) h = grind (arith, same-behind p k)
  same-behind p k h = grind arith

  -- of a key that equals p joined with j, what is left behind p equals j
  pub left-behind : (p j k : List K) → same_key cmp (p ++ j) k ≡ true
      → (rest : List K) × (behind cmp p k ≡ Some rest) × (same_key cmp j rest ≡ true)
  left-behind p j k h = grind (arith, same-append)

  -- ---- equal keys

  -- keys are equal where the order on keys doesn't tell them apart
  pub same-slice_cmp : (j k : List K) → same_key cmp j k ≡ is_eq (slice_cmp cmp j k)
  same-slice_cmp (x ∷ j) (y ∷ k) = grind (arith, same-slice_cmp j k)
  same-slice_cmp j k = grind arith

  -- no key comes before an equal one
  pub not-before : (j k : List K) → slice_cmp cmp j k ≡ Less → same_key cmp j k ≡ true → ⊥
  not-before j k l e = grind (arith, same-slice_cmp)

  -- equal keys are equal place by place
  same-places : (j k : List K) → same_key cmp j k ≡ true → AllZip (λ x y. cmp x y ≡ Equal) j k
  same-places (x ∷ j) (y ∷ k) h = grind (arith, same-places j k)
  same-places j k h = grind arith

  -- and the other way round
  places-same : (j k : List K) → AllZip (λ x y. cmp x y ≡ Equal) j k → same_key cmp j k ≡ true
  places-same (x ∷ j) (y ∷ k) h = grind (arith, places-same j k)
  places-same j k h = grind arith

  -- ---- the first place at which two keys differ

  -- where keys are equal up to a place and the first begins below there, it comes first
  less-from : (n : ℕ) (k j : List K) → same_key cmp (take n k) (take n j) ≡ true
      → BeginsBelow cmp (drop n k) (drop n j) → slice_cmp cmp k j ≡ Less
  less-from (suc n) (x ∷ k) (y ∷ j) h g = grind (arith, less-from n k j)
  less-from n k j h g = grind arith

  -- a place further on
  less-next : (x y : K) (k j : List K) → cmp x y ≡ Equal → IsLess cmp k j → IsLess cmp (x ∷ k) (y ∷ j)
  less-next x y k j e l = record { place = suc l.place; before = rw e l.before; at = l.at }

  -- what comes first is less at the first place at which the two differ
  less-place : (k j : List K) → slice_cmp cmp k j ≡ Less → IsLess cmp k j
  less-place (x ∷ k) (y ∷ j) h = grind (arith, less-place k j, less-next)
  less-place k j h = grind arith

  module _ (o : IsTotalOrder cmp) where
    -- ---- under a total order of components

    -- what is above is not below
    pub less : (x y : K) → cmp x y ≡ Greater → cmp y x ≡ Less
    less x y g = grind arith

    -- the rest is left behind a prefix
    pub behind-itself : (p k : List K) → behind cmp p (p ++ k) ≡ Some k
    behind-itself [] k = refl
    behind-itself (x ∷ p) k = grind (arith, behind-itself p k)

    -- the same is left behind equal prefixes
    pub behind-same : (p q k : List K) → same_key cmp p q ≡ true → behind cmp p k ≡ behind cmp q k
    behind-same (x ∷ p) (y ∷ q) (z ∷ k) h = grind (arith, behind-same p q k)
    behind-same p q k h = grind arith

    -- equal keys are left behind a prefix of equal keys, or nothing of both
    pub behind-of_same : (p j k : List K) → same_key cmp j k ≡ true
        → IsKept (λ j k. same_key cmp j k ≡ true) (behind cmp p j) (behind cmp p k)
    behind-of_same (x ∷ p) (y ∷ j) (z ∷ k) h = grind (arith, behind-of_same p j k)
    behind-of_same p j k h = grind arith

    -- a key equals itself
    pub same-itself : (k : List K) → same_key cmp k k ≡ true
    same-itself k = same-slice_cmp k k ∙ ap is_eq (tied_itself (lists_total o) k)

    -- the sides may be turned
    pub same-flip : (j k : List K) → same_key cmp j k ≡ same_key cmp k j
    same-flip j k = same-slice_cmp j k ∙ (eq_by_cmp_equiv (lists_total o)).symm j k ∙ sym (same-slice_cmp k j)

    -- what equals an equal key is equal
    pub same-trans : (j k l : List K) → same_key cmp j k ≡ true → same_key cmp k l ≡ true → same_key cmp j l ≡ true
    same-trans j k l h g =
        let equal = (Equal-is (slice_cmp cmp j k)).0 (sym (same-slice_cmp j k) ∙ h) in
        same-slice_cmp j l ∙ ap is_eq ((lists_total o).congr j k l equal) ∙ sym (same-slice_cmp k l) ∙ g

    -- equal keys stay equal behind one prefix
    pub same-prepended : (p j k : List K) → same_key cmp j k ≡ true → same_key cmp (p ++ j) (p ++ k) ≡ true
    same-prepended p j k h = grind (arith, same-append, behind-itself)

    -- no two keys come before each other
    pub not-both_before : (j k : List K) → slice_cmp cmp j k ≡ Less → slice_cmp cmp k j ≡ Less → ⊥
    not-both_before j k l m =
        true≢false (sym (ap is_lt m) ∙ ap is_lt ((lists_total o).antisymm k j ∙ ap ordering_reverse l))

    -- keys keep their order behind one prefix
    pub less-prepended : (p k j : List K) → slice_cmp cmp k j ≡ Less → slice_cmp cmp (p ++ k) (p ++ j) ≡ Less
    less-prepended (x ∷ p) k j h = grind (arith, less-prepended p k j)
    less-prepended [] k j h = grind arith

    -- a prefix joined with what is left behind it makes up the key
    pub behind-joins : (p k rest : List K) → behind cmp p k ≡ Some rest → same_key cmp (p ++ rest) k ≡ true
    behind-joins p k rest e = grind (arith, same-append, same-itself)

    -- a key starts with a prefix where something is left behind it
    behind-starts : (k p : List K) (o : Option (List K)) → behind cmp p k ≡ o → is_some o ≡ true → Starts cmp k p
    behind-starts k p None e h = absurd (true≢false (sym h))
    behind-starts k p (Some rest) e h = (rest, behind-joins p k rest e)

    -- what else makes up the key with the prefix equals what is left
    rest-one : (k p q rest : List K) → behind cmp p k ≡ Some rest → same_key cmp (p ++ q) k ≡ true
        → same_key cmp q rest ≡ true
    rest-one k p q rest e h = grind (arith, same-append)

    -- what is left behind a prefix is the one rest
    pub left-is_rest : LeftBehindIsRest cmp
    left-is_rest = record {
      starts = λ k p. (λ s. ap is_some (left-behind p s.0 k s.1).1, behind-starts k p (behind cmp p k) refl);
      joins = λ k p rest. behind-joins p k rest;
      one = rest-one;
    }

    -- equal keys are not told apart
    tied-where_same : (j k : List K) → same_key cmp j k ≡ true → slice_cmp cmp j k ≡ Equal
    tied-where_same j k e = grind (arith, same-slice_cmp)

    -- the order on keys is total, and is told by the first difference
    pub keys-ordered : KeysAreOrdered cmp
    keys-ordered = record {
      total = lists_total o;
      equal = λ j k. (λ e. same-slice_cmp j k ∙ ap is_eq e, tied-where_same j k);
      less = λ j k. (less-place j k, λ l. less-from l.place j k l.before l.at);
      components = λ j k. (same-places j k, places-same j k);
    }
