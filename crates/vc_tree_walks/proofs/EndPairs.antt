-- The first and the last pair of a tree, by its walk.
--     walk-begun        the walk of a solid tree has a first pair
--     first-below, last-below        where the node has no such child, the pair is its own, and otherwise below that child
--     least-is, greatest-is        by the walk of a map the first pair has the least key, and the last one the greatest
--     reaches-itself, reaches-child, reaches-own, reaches-key        the way down to the pair
--     longer, within, own-sized        how many components are counted on it
--     first-empty        where the empty key is bound, it is the first
--     last-empty        where no other key is bound, it is the last
use Rattle.std.proofs.Common.{◌≡◌, ℕ, suc, ◌+◌, ◌-◌, ◌^◌, ◌≤◌, [], ◌∷◌, ◌++◌, List, Option, None, Some, refl, sym, ap}
use Rattle.std.proofs.Common.{subst, ◌∙◌, arith, map, min, length, length-append, append-nil, append_assoc, true, inl, inr}
use Rattle.std.proofs.Common.{true≢false}
use Rattle.std.proofs.lemmas.Map.Keys.{sorted_head, sorted_tail}
use Rattle.std.specs.Cmp.{IsTotalOrder, alike_right}
use Rattle.std.specs.Cmp.Lexicographic.{slice_cmp, lists_total}
use Rattle.std.specs.List.{AllByRecursion}
use Rattle.std.specs.List.Sorted.{IsStrictlySortedBy}
use Rattle.std.specs.Map.{keys_of}
use Rattle.std.specs.Borrow.{Bor}
use Rattle.std.specs.Option.{option_copied, option_map}
use Rattle.std.specs.Prelude.{◌≢◌, IfOk, IfSome, IsSome, MatchOption, Result, slice_get}
use Rattle.std.specs.declared.cmp.Ordering.{Ordering}
use Rattle.std.specs.declared.cmp.Ordering.TheVariants.{Less, Equal, Greater}
use Rattle.vc_tree_model.specs.Canonical.{AreChildren, IsSolid}
use Rattle.vc_tree_model.specs.Key.{same_key}
use Rattle.vc_tree_model.specs.Map.{lookup}
use Rattle.vc_tree_model.specs.Tree.{Tree, Forest, bare, grow, forest, forest_nodes, node, nodes}
use Rattle.vc_tree_model.specs.Walk.{IsWalk, Lists, own_pair, prepended, walk, walk_in}
use Rattle.vc_tree_model.proofs.KeyLemmas.{none-some, not-before, not-both_before, same-flip, same-itself, same-slice_cmp}
use Rattle.vc_tree_model.proofs.LookupLemmas.{children-ordered, tree-bound}
use Rattle.vc_tree_model.proofs.Walking.{walk-is}
use Rattle.vc_tree_nodes.proofs.Firsts.{rest-children}
use Rattle.vc_tree_walks.specs.Ends.{IsLeastPair, IsGreatestPair}
use Rattle.vc_tree_walks.specs.Towards.{IsTowards, end_of, own_end, sized_pair}
use Rattle.vc_tree_walks.specs.declared.ends.End.{End}
use Rattle.vc_tree_walks.specs.declared.ends.End.TheVariants.{First, Last}

-- ---- the last of a list

abbrev pub last_of : {X : Type 0} → List X → Option X
last_of [] = None
last_of (x ∷ []) = Some x
last_of (x ∷ y ∷ l) = last_of (y ∷ l)

pub last-get : {X : Type 0} (l : List X) → slice_get l (length l - 1) ≡ last_of l
last-get (x ∷ y ∷ l) =
    let n : length (x ∷ y ∷ l) - 1 ≡ suc (length (y ∷ l) - 1) = omega arith in
    ap (slice_get (x ∷ y ∷ l)) n ∙ last-get (y ∷ l)
last-get l = grind arith

last-append : {X : Type 0} (l : List X) (x : X) (m : List X) → last_of (l ++ x ∷ m) ≡ last_of (x ∷ m)
last-append (y ∷ z ∷ l) x m = grind (arith, last-append (z ∷ l) x m)
last-append l x m = grind arith

-- a list that is not empty has one
pub last-some : {X A : Type 0} (x : X) (l : List X) → last_of (x ∷ l) ≡ None → A
last-some x [] e = grind arith
last-some x (y ∷ l) e = last-some y l e

pub last-map : {X Y : Type 0} (f : X → Y) (l : List X) → last_of (map f l) ≡ option_map f (last_of l)
last-map f (x ∷ y ∷ l) = grind (arith, last-map f (y ∷ l))
last-map f l = grind arith

module _ {K V : Type 0} where
  -- a list of pairs that has a first
  pub record IsBegun (l : List (List K × V)) : Type 0 where
    pub first : List K × V
    pub others : List (List K × V)
    pub is : l ≡ first ∷ others

  module _ (cmp : K → K → Ordering) (o : IsTotalOrder cmp) where
    listed-begun : (l : List (List K × V)) (k : List K) (v : V) → Lists cmp l k v → IsBegun l
    listed-begun [] k v h = absurd h
    listed-begun (b ∷ l) k v h = record { first = b; others = l; is = refl }

    -- the walk of a solid tree over canonical children has a first pair
    pub walk-begun : (t : Tree K V) → IsSolid t.value t.children → AreChildren cmp t.children → IsBegun (walk t)
    walk-begun t s a =
        let bound = tree-bound cmp o t.prefix t.value t.children s a in
        listed-begun (walk t) (t.prefix ++ bound.key) bound.value
        (((walk-is cmp o t (children-ordered cmp t.children a)).lists (t.prefix ++ bound.key) bound.value).1 bound.is)

  -- ---- the pair of the node itself

  last-alone : (p : List K) (v : Option V) → end_of Last (walk (node p v bare)) ≡ own_end p v
  last-alone p v = grind (arith, append-nil)

  -- ---- the pair below a child

  first-begun : (p : List K) (l m : List (List K × V)) → IsBegun l
      → slice_get (map (prepended p) (l ++ m)) 0 ≡ option_map (prepended p) (slice_get l 0)
  first-begun p l m b = rw b.is refl

  last-begun : (p : List K) (l m : List (List K × V)) → IsBegun m
      → last_of (map (prepended p) (l ++ m)) ≡ option_map (prepended p) (last_of m)
  last-begun p l m b = grind (arith, last-map, last-append)

  module _ (cmp : K → K → Ordering) (o : IsTotalOrder cmp) {T : Type 0} (tree : T → Tree K V) where
    -- a child is solid, over canonical children
    pub head-solid : (p : List K) (v : Option V) (kids rest : Forest K V) → AreChildren cmp (grow p v kids rest)
        → IsSolid v kids × AreChildren cmp kids
    head-solid p v kids rest a = grind arith

    -- the walk of a list of trees ends with that of the last one
    pub record EndsWith (f : Forest K V) (c : Tree K V) : Type 0 where
      pub front : List (List K × V)
      pub is : walk_in f ≡ front ++ walk c
      pub fewer : nodes c ≤ forest_nodes f
      pub begun : IsBegun (walk c)

    pub ends-with : (xs : List T) (c : T) → last_of xs ≡ Some c → AreChildren cmp (forest (map tree xs))
        → EndsWith (forest (map tree xs)) (tree c)
    ends-with [] c e a = none-some c e
    ends-with (x ∷ []) c e a =
        let k : x ≡ c = cc in
        let s = head-solid (tree x).prefix (tree x).value (tree x).children bare a in
        subst (λ c. EndsWith (forest (map tree (x ∷ []))) (tree c)) k
        (record {
          front = [];
          is = append-nil (walk (tree x));
          fewer = omega arith;
          begun = walk-begun cmp o (tree x) s.0 s.1;
        })
    ends-with (x ∷ y ∷ xs) c e a =
        let below = ends-with (y ∷ xs) c e
        (rest-children cmp (tree x).prefix (tree x).value (tree x).children (forest (map tree (y ∷ xs))) a) in
        let few = below.fewer in
        record {
          front = walk (tree x) ++ below.front;
          is = ap (λ l. walk (tree x) ++ l) below.is ∙ sym (append_assoc (walk (tree x)) below.front (walk (tree c)));
          fewer = omega (arith, few);
          begun = below.begun;
        }

    module _ (t : Tree K V) (a : AreChildren cmp t.children) where
      -- the first pair of a node without a value is that of its first child
      pub first-below : t.value ≡ None → (xs : List T) → forest (map tree xs) ≡ t.children → (r : Option (Bor T))
          → option_copied r ≡ slice_get xs 0
          → MatchOption r (end_of First (walk t) ≡ own_end t.prefix t.value) (λ c. IsTowards First t (tree c.now))
      first-below n [] e None d = grind arith
      first-below n [] e (Some c) d = none-some c.now (sym d)
      first-below n (x ∷ xs) e None d = none-some x d
      first-below n (x ∷ xs) e (Some c) d = grind (arith, head-solid, first-begun, walk-begun)

      -- the last pair of a node with children is that of its last child
      pub last-below : (xs : List T) → forest (map tree xs) ≡ t.children → (r : Option (Bor T))
          → option_copied r ≡ slice_get xs (length xs - 1)
          → MatchOption r (end_of Last (walk t) ≡ own_end t.prefix t.value) (λ c. IsTowards Last t (tree c.now))
      last-below [] e None d = grind (arith, last-alone)
      last-below [] e (Some c) d = none-some c.now (sym d)
      last-below (x ∷ xs) e None d = last-some x xs (sym (last-get (x ∷ xs)) ∙ sym d)
      last-below (x ∷ xs) e (Some c) d =
          let ends = ends-with (x ∷ xs) c.now (sym (last-get (x ∷ xs)) ∙ sym d) (subst (AreChildren cmp) (sym e) a) in
          let few = ap forest_nodes e in
          let fewer = ends.fewer in
          record {
            pair =
                last-get (walk t)
                ∙ ap (λ l. last_of (map (prepended t.prefix) (own_pair t.value ++ l))) (ap walk_in (sym e) ∙ ends.is)
                ∙ ap (λ l. last_of (map (prepended t.prefix) l))
                (sym (append_assoc (own_pair t.value) ends.front (walk (tree c.now))))
                ∙ last-begun t.prefix (own_pair t.value ++ ends.front) (walk (tree c.now)) ends.begun
                ∙ ap (option_map (prepended t.prefix)) (sym (last-get (walk (tree c.now))));
            fewer = omega (arith, few, fewer);
          }

-- ---- the least and the greatest key

-- equal keys are neither less nor greater
pub tied : {K : Type 0} (cmp : K → K → Ordering) (j k : List K) → same_key cmp j k ≡ true → slice_cmp cmp j k ≡ Equal
tied cmp j k h = grind (arith, same-slice_cmp)

module _ {K V : Type 0} (cmp : K → K → Ordering) (o : IsTotalOrder cmp) where
  -- a key that is listed behind one that comes before all keys of the list
  listed-after : (j : List K) (l : List (List K × V)) (k : List K) (v : V)
      → AllByRecursion (λ i. slice_cmp cmp j i ≡ Less) (keys_of l) → Lists cmp l k v → slice_cmp cmp j k ≡ Less
  listed-after j [] k v a h = absurd h
  listed-after j (b ∷ l) k v a (inl s) = grind (arith, alike_right, lists_total, tied)
  listed-after j (b ∷ l) k v a (inr h) = listed-after j l k v a.1 h

  -- the last pair of a list is behind them
  last-after : (j : List K) (l : List (List K × V)) (b : List K × V)
      → AllByRecursion (λ i. slice_cmp cmp j i ≡ Less) (keys_of l) → last_of l ≡ Some b → slice_cmp cmp j b.0 ≡ Less
  last-after j (c ∷ d ∷ l) b a e = grind (arith, last-after j (d ∷ l) b)
  last-after j l b a e = grind arith

  -- and is listed
  last-listed : (l : List (List K × V)) (b : List K × V) → last_of l ≡ Some b → Lists cmp l b.0 b.1
  last-listed (c ∷ d ∷ l) b e = grind (arith, last-listed (d ∷ l) b)
  last-listed l b e = grind (arith, none-some, same-itself)

  -- no key of the list is greater
  none-greater : (l : List (List K × V)) (b : List K × V) → IsStrictlySortedBy (slice_cmp cmp) (keys_of l)
      → last_of l ≡ Some b → (k : List K) (v : V) → Lists cmp l k v → slice_cmp cmp k b.0 ≢ Greater
  none-greater [] b a e k v h g = none-some b e
  none-greater (c ∷ []) b a e k v (inr h) g = absurd h
  none-greater (c ∷ []) b a e k v (inl s) g =
      let same : c ≡ b = cc in
      let t = tied cmp k b.0 (same-flip cmp o k b.0 ∙ subst (λ c. same_key cmp c.0 k ≡ true) same s.0) in
      cc
  none-greater (c ∷ d ∷ l) b a e k v (inl s) g =
      let less = last-after c.0 (d ∷ l) b (sorted_head (slice_cmp cmp) c.0 (keys_of (d ∷ l)) a) e in
      let same = (lists_total o).congr c.0 k b.0 (tied cmp c.0 k s.0) in
      cc
  none-greater (c ∷ d ∷ l) b a e k v (inr h) g =
      none-greater (d ∷ l) b (sorted_tail (slice_cmp cmp) c.0 (keys_of (d ∷ l)) a) e k v h g

  -- nor is one less than the first
  none-less : (b : List K × V) (l : List (List K × V)) → IsStrictlySortedBy (slice_cmp cmp) (keys_of (b ∷ l))
      → (k : List K) (v : V) → Lists cmp (b ∷ l) k v → slice_cmp cmp k b.0 ≢ Less
  none-less b l a k v s g = grind (arith, not-before, same-flip, not-both_before, listed-after, sorted_head, slice_cmp, keys_of)

  -- ---- by the walk of a map

  module _ (f : List K → Option V) where
    -- what is bound is listed
    bound-listed : (l : List (List K × V)) → IsWalk cmp f l → (k : List K) → IsSome (f k) → (v : V) × Lists cmp l k v
    bound-listed l w k s = by (f k) refl s
      where
        by : (m : Option V) → f k ≡ m → IsSome m → (v : V) × Lists cmp l k v
        by None e s = absurd (true≢false (sym s))
        by (Some v) e s = (v, (w.lists k v).1 e)

    none-bound : IsWalk cmp f [] → (k : List K) → f k ≡ None
    none-bound w k = by (f k) refl
      where
        by : (m : Option V) → f k ≡ m → m ≡ None
        by None e = refl
        by (Some v) e = absurd ((w.lists k v).1 e)

    module _ {X : Type 0} (view : X → List K × V) where
      -- the first pair has the least key
      pub least-of : (l : List (List K × V)) → IsWalk cmp f l → (r : Option X) → option_map view r ≡ slice_get l 0
          → MatchOption r ((k : List K) → f k ≡ None) (λ x. IsLeastPair cmp f (view x))
      least-of [] w None e = none-bound w
      least-of [] w (Some x) e = none-some (view x) (sym e)
      least-of (b ∷ l) w None e = none-some b e
      least-of (b ∷ l) w (Some x) e =
          let same : b ≡ view x = cc in
          subst (IsLeastPair cmp f) same
          (record {
            bound = (w.lists b.0 b.1).0 (inl (same-itself cmp o b.0, refl));
            least = λ k s. let h = bound-listed (b ∷ l) w k s in none-less b l w.ascends k h.0 h.1;
          })

      -- the last one has the greatest
      pub greatest-of : (l : List (List K × V)) → IsWalk cmp f l → (r : Option X)
          → option_map view r ≡ slice_get l (length l - 1)
          → MatchOption r ((k : List K) → f k ≡ None) (λ x. IsGreatestPair cmp f (view x))
      greatest-of [] w None e = none-bound w
      greatest-of [] w (Some x) e = none-some (view x) (sym e)
      greatest-of (b ∷ l) w None e = last-some b l (sym (last-get (b ∷ l)) ∙ sym e)
      greatest-of (b ∷ l) w (Some x) e =
          let last : last_of (b ∷ l) ≡ Some (view x) = sym (last-get (b ∷ l)) ∙ sym e in
          record {
            bound = (w.lists (view x).0 (view x).1).0 (last-listed (b ∷ l) (view x) last);
            greatest = λ k s. let h = bound-listed (b ∷ l) w k s in none-greater (b ∷ l) (view x) w.ascends last k h.0 h.1;
          }

      -- so it is of the outcome of a call
      module _ {E : Type 0} (l : List (List K × V)) (w : IsWalk cmp f l) where
        pub least-is : (r : Result (Option X) E) → IfOk r (λ found. option_map view found ≡ slice_get l 0)
            → IfOk r (λ found. MatchOption found ((k : List K) → f k ≡ None) (λ x. IsLeastPair cmp f (view x)))
        least-is r e = grind (arith, least-of)

        pub greatest-is : (r : Result (Option X) E) → IfOk r (λ found. option_map view found ≡ slice_get l (length l - 1))
            → IfOk r (λ found. MatchOption found ((k : List K) → f k ≡ None) (λ x. IsGreatestPair cmp f (view x)))
        greatest-is r e = grind (arith, greatest-of)

-- ---- the way down

module _ {K V : Type 0} (end : End) where
  -- the pair at the end of t is that of n behind a front, and the key is that front and the prefix of n
  pub record Reaches (t n : Tree K V) (key : List K) : Type 0 where
    pub front : List K
    pub key_is : key ≡ front ++ n.prefix
    pub pair : end_of end (walk t) ≡ option_map (prepended front) (end_of end (walk n))

  pub prepended-twice : (a p : List K) (o : Option (List K × V))
      → option_map (prepended a) (option_map (prepended p) o) ≡ option_map (prepended (a ++ p)) o
  prepended-twice a p o = grind (arith, append_assoc)

  pub reaches-itself : (t : Tree K V) → Reaches t t t.prefix
  reaches-itself t = grind arith

  pub reaches-child : (t n c : Tree K V) (key : List K) → Reaches t n key → IsTowards end n c → Reaches t c (key ++ c.prefix)
  reaches-child t n c key r w = grind (arith, prepended-twice)

  pub reaches-own : (t n : Tree K V) (key : List K) → Reaches t n key → end_of end (walk n) ≡ own_end n.prefix n.value
      → end_of end (walk t) ≡ own_end key n.value
  reaches-own t n key r e = grind arith

  -- so the key of the pair is that one, where it is put behind others
  pub reaches-key : (t n : Tree K V) (key : List K) → Reaches t n key → end_of end (walk n) ≡ own_end n.prefix n.value
      → (old whole : List K) → whole ≡ old ++ key → IfSome (end_of end (walk t)) (λ b. whole ≡ old ++ b.0)
  reaches-key t n key r e old whole w = grind (arith, reaches-own)

-- a number that stops at the most, of a list with more behind it
pub longer : {K : Type 0} (key more : List K) (count most : ℕ) → count ≡ min (length key) most
    → min (count + length more) most ≡ min (length (key ++ more)) most
longer key more count most e = grind (arith, length-append)

-- and of one that is no longer than that
pub within : {K : Type 0} (seen key : List K) (most : ℕ) → seen ≡ key → length seen ≤ most
    → length seen ≡ min (length key) most
within seen key most e h = grind arith

-- the pair of a key that was counted
pub own-sized : {K V : Type 0} (key : List K) (o : Option V) (v : V) (count : ℕ) → o ≡ Some v
    → count ≡ min (length key) (2 ^ 64 - 1) → Some (count, v) ≡ option_map sized_pair (own_end key o)
own-sized key o v count e c = grind arith

-- where the empty key is bound, the first pair has it
pub first-empty : {K V : Type 0} (cmp : K → K → Ordering) (p : List K) (v : Option V) (f : Forest K V)
    → IsSome (lookup cmp (node p v f) []) → (w : V) × (slice_get (walk (node p v f)) 0 ≡ Some ([], w))
first-empty cmp [] (Some w) f s = (w, refl)
first-empty cmp [] None f s = grind arith
first-empty cmp (y ∷ p) v f s = grind arith

-- no component before a key
pub unprepended : {K V X E : Type 0} (view : X → List K × V) (p : Option (List K × V)) (r : Result (Option X) E)
    → IfOk r (λ found. option_map view found ≡ option_map (prepended []) p) → IfOk r (λ found. option_map view found ≡ p)
unprepended view None r h = h
unprepended view (Some b) r h = h

pub mapped-itself : {X : Type 0} (o : Option X) → option_map (λ x. x) o ≡ o
mapped-itself None = refl
mapped-itself (Some x) = refl

-- of a map that binds no key but the empty one, each greatest pair has that key
pub last-empty : {K V : Type 0} (cmp : K → K → Ordering) (f : List K → Option V) (o : Option (List K × V))
    → MatchOption o ((k : List K) → f k ≡ None) (λ b. IsGreatestPair cmp f b) → ((k : List K) → IsSome (f k) → k ≡ [])
    → (P : Type 0) → (o ≡ None → P) → ((v : V) → o ≡ Some ([], v) → P) → P
last-empty cmp f None m only P n s = n refl
last-empty cmp f (Some (k, v)) m only P n s =
    let empty : k ≡ [] = only k (rw m.bound refl) in
    s v (ap (λ k. Some (k, v)) empty)
