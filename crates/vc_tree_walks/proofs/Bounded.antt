-- The walks of the parts of a map that a key cuts.
--     listed-test, part-walk        the walk of the keys at which a test holds, where they are one part of all
--     IsCut        a list of pairs that a key cuts
--     walk-above, walk-below, walk-not_below        its parts are walks
--     walk-until        so are the pairs up to the first whose key is not less
use Rattle.std.proofs.Common.{◌≡◌, [], ◌∷◌, ◌++◌, List, Option, None, Some, Bool, true, false, ◌⊎◌, inl, inr, refl, sym, ap}
use Rattle.std.proofs.Common.{◌∙◌, cond, subst, append_assoc, append-nil, arith, true≢false}
use Rattle.std.proofs.lemmas.List.Sums.{take_while-cons}
use Rattle.std.proofs.lemmas.Map.Keys.{sorted_tail}
use Rattle.std.specs.Cmp.{IsTotalOrder}
use Rattle.std.specs.Cmp.Lexicographic.{slice_cmp, lists_total}
use Rattle.std.specs.List.{AllByRecursion, take_while}
use Rattle.std.specs.List.Sorted.{IsStrictlySortedBy}
use Rattle.std.specs.Map.{keys_of}
use Rattle.std.specs.Ordering.{is_ge, is_gt, is_lt}
use Rattle.std.specs.declared.cmp.Ordering.{Ordering}
use Rattle.std.specs.declared.cmp.Ordering.TheVariants.{Less, Equal, Greater}
use Rattle.vc_tree_model.specs.Key.{same_key}
use Rattle.vc_tree_model.specs.Walk.{IsWalk, Lists}
use Rattle.vc_tree_walks.specs.Bounds.{above, below, not_below}
use Rattle.vc_tree_walks.specs.Standing.{AllStand}
use Rattle.vc_tree_walks.proofs.EndPairs.{tied}

-- the first elements of a list on which a fact holds
all-front : {X : Type 0} (P : X → Type 0) (l m : List X) → AllByRecursion P (l ++ m) → AllByRecursion P l
all-front P [] m h = tt
all-front P (x ∷ l) m h = (h.0, all-front P l m h.1)

module _ {K V : Type 0} (cmp : K → K → Ordering) where
  -- the keys of two lists
  keys-append : (l m : List (List K × V)) → keys_of (l ++ m) ≡ keys_of l ++ keys_of m
  keys-append [] m = refl
  keys-append (b ∷ l) m = ap (λ ks. b.0 ∷ ks) (keys-append l m)

  -- the first part of an ascending list ascends
  ascend-front : (l m : List (List K × V)) → IsStrictlySortedBy (slice_cmp cmp) (keys_of (l ++ m))
      → IsStrictlySortedBy (slice_cmp cmp) (keys_of l)
  unfolding IsStrictlySortedBy
  ascend-front [] m a = tt
  ascend-front (b ∷ l) m a = (
    all-front (λ k. slice_cmp cmp b.0 k ≡ Less) (keys_of l) (keys_of m)
        (subst (AllByRecursion (λ k. slice_cmp cmp b.0 k ≡ Less)) (keys-append l m) a.0),
    ascend-front l m a.1,
  )

  -- and the last part
  ascend-rest : (l m : List (List K × V)) → IsStrictlySortedBy (slice_cmp cmp) (keys_of (l ++ m))
      → IsStrictlySortedBy (slice_cmp cmp) (keys_of m)
  ascend-rest [] m a = a
  ascend-rest (b ∷ l) m a = ascend-rest l m (sorted_tail (slice_cmp cmp) b.0 (keys_of (l ++ m)) a)

  -- what a part of a list has, the list has
  listed-part : (a b c : List (List K × V)) (k : List K) (v : V) → Lists cmp b k v → Lists cmp (a ++ (b ++ c)) k v
  listed-part (x ∷ a) b c k v h = inr (listed-part a b c k v h)
  listed-part [] (x ∷ b) c k v (inl h) = inl h
  listed-part [] (x ∷ b) c k v (inr h) = inr (listed-part [] b c k v h)
  listed-part [] [] c k v h = absurd h

  -- what two lists have, one of them has
  listed-either : (l m : List (List K × V)) (k : List K) (v : V) → Lists cmp (l ++ m) k v
      → Lists cmp l k v ⊎ Lists cmp m k v
  listed-either [] m k v h = inr h
  listed-either (b ∷ l) m k v (inl h) = inl (inl h)
  listed-either (b ∷ l) m k v (inr h) = grind (arith, listed-either l m k v)

  module _ (test : List K → Bool) (same : (j k : List K) → same_key cmp j k ≡ true → test j ≡ test k)
      (f : List K → Option V) where
    -- the test answers so at each key of the list
    abbrev AllTest : Bool → List (List K × V) → Type 0
    AllTest answer l = AllByRecursion (λ b. test b.0 ≡ answer) l

    -- so it does at each key that is listed
    listed-test : (answer : Bool) (l : List (List K × V)) (k : List K) (v : V) → AllTest answer l → Lists cmp l k v
        → test k ≡ answer
    listed-test answer [] k v a h = absurd h
    listed-test answer (b ∷ l) k v a (inl h) = sym (same b.0 k h.0) ∙ a.0
    listed-test answer (b ∷ l) k v a (inr h) = listed-test answer l k v a.1 h

    -- what is bound where the test holds
    tested-some : (answer : Bool) (o : Option V) (v : V) → cond answer o None ≡ Some v → (answer ≡ true) × (o ≡ Some v)
    tested-some answer o v h = grind arith

    some-tested : (answer : Bool) (o : Option V) (v : V) → answer ≡ true → o ≡ Some v → cond answer o None ≡ Some v
    some-tested answer o v h e = grind arith

    -- the keys at which the test holds are one part of a walk
    part-walk : (a b c : List (List K × V)) → IsWalk cmp f (a ++ (b ++ c)) → AllTest false a → AllTest true b
        → AllTest false c → IsWalk cmp (λ k. cond (test k) (f k) None) b
    part-walk a b c w fa tb fc = record {
      ascends = ascend-front b c (ascend-rest a (b ++ c) w.ascends);
      lists = λ k v. (
        λ h. some-tested (test k) (f k) v (listed-test true b k v tb h) ((w.lists k v).0 (listed-part a b c k v h)),
        λ h. let g = tested-some (test k) (f k) v h in
            in_middle k v g.0 (listed-either a (b ++ c) k v ((w.lists k v).1 g.1)),
      );
    }
      where
        in_rest : (k : List K) (v : V) → test k ≡ true → Lists cmp b k v ⊎ Lists cmp c k v → Lists cmp b k v
        in_rest k v t (inl h) = h
        in_rest k v t (inr h) = absurd (true≢false (sym t ∙ listed-test false c k v fc h))

        in_middle : (k : List K) (v : V) → test k ≡ true → Lists cmp a k v ⊎ Lists cmp (b ++ c) k v → Lists cmp b k v
        in_middle k v t (inl h) = absurd (true≢false (sym t ∙ listed-test false a k v fa h))
        in_middle k v t (inr h) = in_rest k v t (listed-either b c k v h)

  -- ---- the parts that a key cuts

  -- where the keys stand so, a test of that answers so
  stand-tested : (test : Ordering → Bool) (side : Ordering) (key : List K) (l : List (List K × V)) → AllStand cmp side l key
      → AllByRecursion (λ b. test (slice_cmp cmp b.0 key) ≡ test side) l
  stand-tested test side key [] h = tt
  stand-tested test side key (b ∷ l) h = (ap test h.0, stand-tested test side key l h.1)

  -- the pairs whose keys come before the key, those that have it, and those behind it
  pub record IsCut (l : List (List K × V)) (key : List K) (lower middle upper : List (List K × V)) : Type 0 where
    pub parts : l ≡ lower ++ (middle ++ upper)
    pub less : AllStand cmp Less lower key
    pub equal : AllStand cmp Equal middle key
    pub greater : AllStand cmp Greater upper key

  module _ (o : IsTotalOrder cmp) (f : List K → Option V) (l : List (List K × V)) (w : IsWalk cmp f l) (key : List K)
      (lower middle upper : List (List K × V)) (c : IsCut l key lower middle upper) where
    -- equal keys stand alike
    stand-same : (test : Ordering → Bool) (j k : List K) → same_key cmp j k ≡ true
        → test (slice_cmp cmp j key) ≡ test (slice_cmp cmp k key)
    stand-same test j k h = ap test ((lists_total o).congr j k key (tied cmp j k h))

    all-append : (P : List K × V → Type 0) (a b : List (List K × V)) → AllByRecursion P a → AllByRecursion P b
        → AllByRecursion P (a ++ b)
    all-append P [] b h g = g
    all-append P (x ∷ a) b h g = (h.0, all-append P a b h.1 g)

    pub walk-above : IsWalk cmp (above cmp f key) upper
    walk-above =
        let is : l ≡ (lower ++ middle) ++ (upper ++ []) =
        c.parts ∙ sym (append_assoc lower middle upper) ∙ ap (λ m. (lower ++ middle) ++ m) (sym (append-nil upper)) in
        part-walk (λ k. is_gt (slice_cmp cmp k key)) (stand-same is_gt) f (lower ++ middle) upper []
        (subst (IsWalk cmp f) is w)
        (all-append (λ b. is_gt (slice_cmp cmp b.0 key) ≡ false) lower middle (stand-tested is_gt Less key lower c.less)
        (stand-tested is_gt Equal key middle c.equal))
        (stand-tested is_gt Greater key upper c.greater) tt

    pub walk-below : IsWalk cmp (below cmp f key) lower
    walk-below =
        part-walk (λ k. is_lt (slice_cmp cmp k key)) (stand-same is_lt) f [] lower (middle ++ upper)
        (subst (IsWalk cmp f) c.parts w) tt (stand-tested is_lt Less key lower c.less)
        (all-append (λ b. is_lt (slice_cmp cmp b.0 key) ≡ false) middle upper (stand-tested is_lt Equal key middle c.equal)
        (stand-tested is_lt Greater key upper c.greater))

    pub walk-not_below : IsWalk cmp (not_below cmp f key) (middle ++ upper)
    walk-not_below =
        let is : l ≡ lower ++ ((middle ++ upper) ++ []) =
        c.parts ∙ ap (λ m. lower ++ m) (sym (append-nil (middle ++ upper))) in
        part-walk (λ k. is_ge (slice_cmp cmp k key)) (stand-same is_ge) f lower (middle ++ upper) []
        (subst (IsWalk cmp f) is w) (stand-tested is_ge Less key lower c.less)
        (all-append (λ b. is_ge (slice_cmp cmp b.0 key) ≡ true) middle upper (stand-tested is_ge Equal key middle c.equal)
        (stand-tested is_ge Greater key upper c.greater)) tt

  -- ---- the pairs up to the first whose key is not less

  module _ (o : IsTotalOrder cmp) (key : List K) where
    abbrev comes_before : List K × V → Bool
    comes_before b = is_lt (slice_cmp cmp b.0 key)

    -- what ascends after a key that is not less is not less
    none-before : (j : List K) → is_lt (slice_cmp cmp j key) ≡ false → (l : List (List K × V))
        → AllByRecursion (λ k. slice_cmp cmp j k ≡ Less) (keys_of l) → AllByRecursion (λ b. comes_before b ≡ false) l
    none-before j h [] a = tt
    none-before j h (b ∷ l) a = (by (slice_cmp cmp b.0 key) refl, none-before j h l a.1)
      where
        by : (s : Ordering) → slice_cmp cmp b.0 key ≡ s → is_lt s ≡ false
        by Less e = absurd (true≢false (sym (ap is_lt ((lists_total o).trans j b.0 key a.0 e)) ∙ h))
        by Equal e = refl
        by Greater e = refl

    -- an ascending list in two parts
    record IsParted (l : List (List K × V)) : Type 0 where
      others : List (List K × V)
      parts : l ≡ take_while comes_before l ++ others
      before : AllByRecursion (λ b. comes_before b ≡ true) (take_while comes_before l)
      after : AllByRecursion (λ b. comes_before b ≡ false) others

    -- one more before it
    parted-more : (b : List K × V) (l : List (List K × V)) → IsParted l
        → AllByRecursion (λ k. slice_cmp cmp b.0 k ≡ Less) (keys_of l) → IsParted (b ∷ l)
    parted-more b l rest a = by (comes_before b) refl
      where
        cons : (t : Bool) → comes_before b ≡ t
            → take_while comes_before (b ∷ l) ≡ cond t (b ∷ take_while comes_before l) []
        cons t e =
            take_while-cons comes_before b l ∙ ap (λ t. cond t (b ∷ take_while comes_before l) []) e

        by : (t : Bool) → comes_before b ≡ t → IsParted (b ∷ l)
        by true e = record {
          others = rest.others;
          parts = ap (λ m. b ∷ m) rest.parts ∙ ap (λ m. m ++ rest.others) (sym (cons true e));
          before = subst (AllByRecursion (λ c. comes_before c ≡ true)) (sym (cons true e)) (e, rest.before);
          after = rest.after;
        }
        by false e = record {
          others = b ∷ l;
          parts = ap (λ m. m ++ b ∷ l) (sym (cons false e));
          before = subst (AllByRecursion (λ c. comes_before c ≡ true)) (sym (cons false e)) tt;
          after = (e, none-before b.0 e l a);
        }

    parted : (l : List (List K × V)) → IsStrictlySortedBy (slice_cmp cmp) (keys_of l) → IsParted l
    unfolding IsStrictlySortedBy
    parted [] a = record { others = []; parts = refl; before = tt; after = tt }
    parted (b ∷ l) a = parted-more b l (parted l a.1) a.0

    pub walk-until : (f : List K → Option V) (l : List (List K × V)) → IsWalk cmp f l
        → IsWalk cmp (below cmp f key) (take_while comes_before l)
    walk-until f l w =
        let p = parted l w.ascends in
        part-walk (λ k. is_lt (slice_cmp cmp k key)) (λ j k h. ap is_lt ((lists_total o).congr j k key (tied cmp j k h))) f
        [] (take_while comes_before l) p.others (subst (IsWalk cmp f) p.parts w) tt p.before p.after
