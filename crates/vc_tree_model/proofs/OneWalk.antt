-- A map has one walk: two lists of all its pairs, keys strictly ascending, are equal pair by pair.
--     one-walk        equal keys and the same values, element by element
--     walk-length        so every walk of a tree's map is as long as the tree has values
use Rattle.std.proofs.Common.{◌≡◌, [], ◌∷◌, List, Option, length, refl, sym, ◌∙◌, true, inl, inr, arith}
use Rattle.std.specs.declared.cmp.Ordering.{Ordering}
use Rattle.std.specs.declared.cmp.Ordering.TheVariants.{Less}
use Rattle.std.specs.Cmp.{IsTotalOrder, Equal-is, alike_right}
use Rattle.std.specs.Cmp.Lexicographic.{slice_cmp, lists_total}
use Rattle.std.specs.List.{AllByRecursion, AllZip}
use Rattle.std.specs.List.Sorted.{IsStrictlySortedBy}
use Rattle.std.specs.Map.{keys_of}
use Rattle.std.proofs.lemmas.Slice.Zip.{AllZip-long}
use Rattle.vc_tree_model.specs.Key.{same_key}
use Rattle.vc_tree_model.specs.Tree.{Tree, key_count}
use Rattle.vc_tree_model.specs.Map.{lookup}
use Rattle.vc_tree_model.specs.Canonical.{AreOrdered}
use Rattle.vc_tree_model.specs.Walk.{walk, Lists, IsSamePair, IsWalk}
use Rattle.vc_tree_model.proofs.KeyLemmas.{same-slice_cmp, same-itself, same-flip, same-trans, not-before, not-both_before}
use Rattle.vc_tree_model.proofs.Walking.{Ascend, walk-is, length-walk}

module _ {K V : Type 0} (cmp : K → K → Ordering) (o : IsTotalOrder cmp) where
  -- a key comes before each key that a list above it has
  before-listed : (j : List K) (l : List (List K × V)) → AllByRecursion (λ k. slice_cmp cmp j k ≡ Less) (keys_of l)
      → (k : List K) (a : V) → Lists cmp l k a → slice_cmp cmp j k ≡ Less
  before-listed j [] h k a e = absurd e
  before-listed j (b ∷ l) h k a (inl e) =
      sym
      (alike_right (lists_total o) b.0 k j ((Equal-is (slice_cmp cmp b.0 k)).0 (sym (same-slice_cmp cmp b.0 k) ∙ e.0)))
      ∙ h.0
  before-listed j (b ∷ l) h k a (inr e) = before-listed j l h.1 k a e

  -- the first pairs of two lists that have each other's first pair
  same-firsts : (b c : List K × V) (l m : List (List K × V)) → Ascend cmp (b ∷ l) → Ascend cmp (c ∷ m)
      → Lists cmp (c ∷ m) b.0 b.1 → Lists cmp (b ∷ l) c.0 c.1 → IsSamePair cmp b c
  unfolding IsStrictlySortedBy
  same-firsts b c l m p q (inl h) g = grind (arith, same-flip)
  same-firsts b c l m p q (inr h) (inl g) = g
  same-firsts b c l m p q (inr h) (inr g) =
      absurd (not-both_before cmp o c.0 b.0 (before-listed c.0 m q.0 b.0 b.1 h) (before-listed b.0 l p.0 c.0 c.1 g))

  -- behind equal first keys, the others have each other's pairs
  others : (b c : List K × V) (l m : List (List K × V)) → Ascend cmp (b ∷ l) → same_key cmp b.0 c.0 ≡ true
      → ((k : List K) (a : V) → Lists cmp (b ∷ l) k a → Lists cmp (c ∷ m) k a) → (k : List K) (a : V)
      → Lists cmp l k a → Lists cmp m k a
  unfolding IsStrictlySortedBy
  others b c l m p e f k a h = by (f k a (inr h))
    where
      by : Lists cmp (c ∷ m) k a → Lists cmp m k a
      by (inr g) = g
      by (inl g) = absurd (not-before cmp b.0 k (before-listed b.0 l p.0 k a h) (same-trans cmp o b.0 c.0 k e g.0))

  -- the others ascend
  others-ascend : (b : List K × V) (l : List (List K × V)) → Ascend cmp (b ∷ l) → Ascend cmp l
  unfolding IsStrictlySortedBy
  others-ascend b l p = p.1

  -- two lists that ascend and have each other's pairs are equal, pair by pair
  same-pairs : (l m : List (List K × V)) → Ascend cmp l → Ascend cmp m
      → ((k : List K) (a : V) → Lists cmp l k a → Lists cmp m k a)
      → ((k : List K) (a : V) → Lists cmp m k a → Lists cmp l k a)
      → AllZip (IsSamePair cmp) l m
  same-pairs [] [] p q f g = tt
  same-pairs [] (c ∷ m) p q f g = absurd (g c.0 c.1 (inl (same-itself cmp o c.0, refl)))
  same-pairs (b ∷ l) [] p q f g = absurd (f b.0 b.1 (inl (same-itself cmp o b.0, refl)))
  same-pairs (b ∷ l) (c ∷ m) p q f g =
      let left = f b.0 b.1 (inl (same-itself cmp o b.0, refl)) in
      let right = g c.0 c.1 (inl (same-itself cmp o c.0, refl)) in
      let same = same-firsts b c l m p q left right in
      let back = same-flip cmp o c.0 b.0 ∙ same.0 in
      let beside = same-pairs l m (others-ascend b l p) (others-ascend c m q) in
      (same, beside (others b c l m p same.0 f) (others c b m l q back g))

  -- a map has one walk
  pub one-walk : (f : List K → Option V) (l m : List (List K × V)) → IsWalk cmp f l → IsWalk cmp f m
      → AllZip (IsSamePair cmp) l m
  one-walk f l m p q = grind (arith, same-pairs)

  -- every walk of a tree's map is as long as the tree has values
  pub walk-length : (t : Tree K V) → AreOrdered cmp t.children → (l : List (List K × V)) → IsWalk cmp (lookup cmp t) l
      → length l ≡ key_count t
  walk-length t d l w =
      AllZip-long (IsSamePair cmp) (walk t) l (one-walk (lookup cmp t) (walk t) l (walk-is cmp o t d) w)
      ∙ length-walk t
