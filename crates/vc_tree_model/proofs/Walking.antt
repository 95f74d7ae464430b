-- The walk of a tree ascends, and lists what the tree binds.
--     walk-ascends        its keys ascend strictly
--     walk-bound, walk-lists        each of its pairs is bound, and each bound key is in it
--     walk-is        both: it is the walk of the tree's map
--     ascend-prepended, lists-prepended        a prefix before the keys of a list
--     length-walk        it is as long as the tree has values
use Rattle.std.proofs.Common.{◌≡◌, ◌+◌, [], ◌∷◌, ◌++◌, List, Option, None, Some, map, length, length-append, refl}
use Rattle.std.proofs.Common.{sym, ap, ◌∙◌, true, inl, inr, ◌↔◌, subst, arith, append-nil}
use Rattle.std.proofs.lemmas.List.{length-map}
use Rattle.std.specs.declared.cmp.Ordering.{Ordering}
use Rattle.std.specs.declared.cmp.Ordering.TheVariants.{Less}
use Rattle.std.specs.Cmp.{IsTotalOrder}
use Rattle.std.specs.Cmp.Lexicographic.{slice_cmp}
use Rattle.std.specs.List.{AllByRecursion}
use Rattle.std.specs.List.Sorted.{IsStrictlySortedBy}
use Rattle.std.specs.Map.{keys_of}
use Rattle.vc_tree_model.specs.Key.{same_key}
use Rattle.vc_tree_model.specs.Tree.{Tree, Forest, bare, grow, own_count, key_count, forest_key_count}
use Rattle.vc_tree_model.specs.Map.{lookup}
use Rattle.vc_tree_model.specs.Binds.{NodeBinds, BindsIn, Binds}
use Rattle.vc_tree_model.specs.Canonical.{AllAbove, AreOrdered}
use Rattle.vc_tree_model.specs.Walk.{own_pair, prepended, walk, walk_in, Lists, IsWalk}
use Rattle.vc_tree_model.proofs.KeyLemmas.{none-some, same-itself, same-trans, same-prepended, less-prepended}
use Rattle.vc_tree_model.proofs.Binding.{lookup-binds, binds-lookup_same}

-- ---- keys that begin above a component

module _ {K : Type 0} (cmp : K → K → Ordering) where
  -- a key begins with a component that is greater than x
  abbrev Above : K → List K → Type 0
  Above x [] = ⊥
  Above x (y ∷ k) = cmp x y ≡ Less

  -- a key that begins with x comes before one that begins above
  less-above : (x : K) (k j : List K) → Above x j → slice_cmp cmp (x ∷ k) j ≡ Less
  less-above x k j a = grind arith

-- ---- facts on each pair of a list

module _ {K V : Type 0} where
  -- a fact on keys holds of each key of the list
  abbrev AllKeys : (List K → Type 0) → List (List K × V) → Type 0
  AllKeys P l = AllByRecursion P (keys_of l)

  -- a fact on keys that follows from another
  keys-mono : (P Q : List K → Type 0) → ((k : List K) → P k → Q k) → (l : List (List K × V)) → AllKeys P l
      → AllKeys Q l
  keys-mono P Q f [] h = tt
  keys-mono P Q f (b ∷ l) h = (f b.0 h.0, keys-mono P Q f l h.1)

  -- of two lists joined
  keys-append : (P : List K → Type 0) (l m : List (List K × V)) → AllKeys P l → AllKeys P m → AllKeys P (l ++ m)
  keys-append P [] m h g = g
  keys-append P (b ∷ l) m h g = (h.0, keys-append P l m h.1 g)

  -- of keys with a prefix before them, where it follows from another of the keys without it
  keys-prepended : (P Q : List K → Type 0) (p : List K) → ((k : List K) → P k → Q (p ++ k)) → (l : List (List K × V))
      → AllKeys P l → AllKeys Q (map (prepended p) l)
  keys-prepended P Q p f [] h = tt
  keys-prepended P Q p f (b ∷ l) h = (f b.0 h.0, keys-prepended P Q p f l h.1)

  -- of keys with a prefix before them, where it holds of all such keys
  keys-under : (P : List K → Type 0) (p : List K) → ((k : List K) → P (p ++ k)) → (l : List (List K × V))
      → AllKeys P (map (prepended p) l)
  keys-under P p f [] = tt
  keys-under P p f (b ∷ l) = (f b.0, keys-under P p f l)

  -- a fact on a key and a value holds of each pair of the list
  abbrev AllBound : (List K → V → Type 0) → List (List K × V) → Type 0
  AllBound P l = AllByRecursion (λ b. P b.0 b.1) l

  -- of two lists joined
  pairs-append : (P : List K → V → Type 0) (l m : List (List K × V)) → AllBound P l → AllBound P m
      → AllBound P (l ++ m)
  pairs-append P [] m h g = g
  pairs-append P (b ∷ l) m h g = (h.0, pairs-append P l m h.1 g)

  -- a fact that follows from another
  pairs-mono : (P Q : List K → V → Type 0) → ((k : List K) (a : V) → P k a → Q k a) → (l : List (List K × V))
      → AllBound P l → AllBound Q l
  pairs-mono P Q f [] h = tt
  pairs-mono P Q f (b ∷ l) h = (f b.0 b.1 h.0, pairs-mono P Q f l h.1)

  -- of keys with a prefix before them, where it follows from another of the keys without it
  pairs-prepended : (P Q : List K → V → Type 0) (p : List K) → ((k : List K) (a : V) → P k a → Q (p ++ k) a)
      → (l : List (List K × V)) → AllBound P l → AllBound Q (map (prepended p) l)
  pairs-prepended P Q p f [] h = tt
  pairs-prepended P Q p f (b ∷ l) h = (f b.0 b.1 h.0, pairs-prepended P Q p f l h.1)

  module _ (cmp : K → K → Ordering) where
    -- ---- the walk ascends

    -- the keys of a list ascend strictly
    abbrev pub Ascend : List (List K × V) → Type 0
    Ascend l = IsStrictlySortedBy (slice_cmp cmp) (keys_of l)

    -- a key comes before each key of a list
    abbrev Before : List K → List (List K × V) → Type 0
    Before k l = AllKeys (λ j. slice_cmp cmp k j ≡ Less) l

    -- two lists joined ascend where both do, and each key of the first comes before each of the second
    ascend-append : (l m : List (List K × V)) → Ascend l → Ascend m → AllKeys (λ k. Before k m) l → Ascend (l ++ m)
    unfolding IsStrictlySortedBy
    ascend-append [] m h g a = g
    ascend-append (b ∷ l) m h g a =
        (keys-append (λ j. slice_cmp cmp b.0 j ≡ Less) l m h.0 a.0, ascend-append l m h.1 g a.1)

    -- each key of trees above x begins above x
    walk-above : (x : K) (f : Forest K V) → AllAbove cmp x f → AllKeys (Above cmp x) (walk_in f)
    walk-above x (grow (y ∷ p) v kids rest) a =
        let here = own_pair v ++ walk_in kids in
        keys-append (Above cmp x) (map (prepended (y ∷ p)) here) (walk_in rest)
        (keys-under (Above cmp x) (y ∷ p) (λ k. a.0) here) (walk-above x rest a.1)
    walk-above x f a = grind arith

    -- the empty key comes before each key of children
    empty-before : (f : Forest K V) → AreOrdered cmp f → Before [] (walk_in f)
    empty-before (grow (y ∷ p) v kids rest) a =
        let here = own_pair v ++ walk_in kids in
        let first = λ (j : List K). slice_cmp cmp [] j ≡ Less in
        keys-append first (map (prepended (y ∷ p)) here) (walk_in rest)
        (keys-under first (y ∷ p) (λ k. refl) here) (empty-before rest a.2)
    empty-before f a = grind arith

    -- a node's own pair comes before those of its children
    ascend-own : (v : Option V) (f : Forest K V) → AreOrdered cmp f → Ascend (walk_in f)
        → Ascend (own_pair v ++ walk_in f)
    unfolding IsStrictlySortedBy
    ascend-own None f a h = h
    ascend-own (Some v) f a h = (empty-before f a, h)

    module _ (o : IsTotalOrder cmp) where
      -- keys keep their order behind one prefix
      pub ascend-prepended : (p : List K) (l : List (List K × V)) → Ascend l → Ascend (map (prepended p) l)
      unfolding IsStrictlySortedBy
      ascend-prepended p [] h = tt
      ascend-prepended p (b ∷ l) h = (
        keys-prepended (λ j. slice_cmp cmp b.0 j ≡ Less) (λ j. slice_cmp cmp (p ++ b.0) j ≡ Less) p
            (less-prepended cmp o p b.0) l h.0,
        ascend-prepended p l h.1,
      )

      -- each key of a tree that begins with x comes before each key of trees above x
      tree-before : (x : K) (p : List K) (rest : Forest K V) → AllAbove cmp x rest → (l : List (List K × V))
          → AllKeys (λ k. Before k (walk_in rest)) (map (prepended (x ∷ p)) l)
      tree-before x p rest a l =
          let above = walk-above x rest a in
          keys-under (λ k. Before k (walk_in rest)) (x ∷ p)
          (λ k. keys-mono (Above cmp x) (λ j. slice_cmp cmp (x ∷ p ++ k) j ≡ Less) (less-above cmp x (p ++ k)) _ above)
          l

      -- the walk of a list of trees in order ascends
      walk_in-ascends : (f : Forest K V) → AreOrdered cmp f → Ascend (walk_in f)
      unfolding IsStrictlySortedBy
      walk_in-ascends (grow (x ∷ p) v kids rest) a =
          grind (arith, walk_in-ascends kids, walk_in-ascends rest, ascend-append, ascend-prepended, ascend-own, tree-before)
      walk_in-ascends f a = grind arith

      -- the walk of a tree whose children are in order ascends
      pub walk-ascends : (t : Tree K V) → AreOrdered cmp t.children → Ascend (walk t)
      walk-ascends t a = grind (arith, ascend-prepended, ascend-own, walk_in-ascends)

    -- ---- each pair of the walk is bound

    -- what a list has at a key, it has at an equal key of which the fact holds
    lists-bound : (P : List K → V → Type 0) (l : List (List K × V)) → AllBound P l → (k : List K) (a : V)
        → Lists cmp l k a → (j : List K) × P j a × (same_key cmp j k ≡ true)
    lists-bound P [] h k a e = absurd e
    lists-bound P (b ∷ l) h k a (inl e) = (b.0, subst (P b.0) e.1 h.0, e.0)
    lists-bound P (b ∷ l) h k a (inr e) = lists-bound P l h.1 k a e

    -- ---- each bound pair is in the walk

    -- what the first of two lists has
    lists-left : (l m : List (List K × V)) (k : List K) (a : V) → Lists cmp l k a → Lists cmp (l ++ m) k a
    lists-left [] m k a h = absurd h
    lists-left (b ∷ l) m k a (inl e) = inl e
    lists-left (b ∷ l) m k a (inr h) = inr (lists-left l m k a h)

    -- what the second has
    lists-right : (l m : List (List K × V)) (k : List K) (a : V) → Lists cmp m k a → Lists cmp (l ++ m) k a
    lists-right [] m k a h = h
    lists-right (b ∷ l) m k a h = inr (lists-right l m k a h)

    module _ (o : IsTotalOrder cmp) where
      -- the pairs of a node are bound where those of its children are
      node-bound : (p : List K) (v : Option V) (below : List K → V → Type 0) (l : List (List K × V))
          → AllBound below l → AllBound (NodeBinds cmp p v below) (map (prepended p) (own_pair v ++ l))
      node-bound p None below l h =
          pairs-prepended below (NodeBinds cmp p None below) p (λ k a g. inr (k, same-itself cmp o (p ++ k), g)) l h
      node-bound p (Some v) below l h = (
        inl (subst (λ q. same_key cmp p q ≡ true) (sym (append-nil p)) (same-itself cmp o p), refl),
        pairs-prepended below (NodeBinds cmp p (Some v) below) p (λ k a g. inr (k, same-itself cmp o (p ++ k), g)) l h,
      )

      -- each pair of a list of trees is bound by one
      walk_in-bound : (f : Forest K V) → AllBound (BindsIn cmp f) (walk_in f)
      walk_in-bound bare = tt
      walk_in-bound (grow p v kids rest) =
          grind (arith, walk_in-bound kids, walk_in-bound rest, node-bound, pairs-append, pairs-mono)

      -- each pair of the walk is bound
      pub walk-bound : (t : Tree K V) → AllByRecursion (λ b. Binds cmp t b.0 b.1) (walk t)
      walk-bound t = grind (arith, node-bound, walk_in-bound)

      -- a pair is still listed behind a prefix
      pub lists-prepended : (p : List K) (l : List (List K × V)) (rest k : List K) (a : V)
          → same_key cmp (p ++ rest) k ≡ true → Lists cmp l rest a → Lists cmp (map (prepended p) l) k a
      lists-prepended p [] rest k a e h = absurd h
      lists-prepended p (b ∷ l) rest k a e (inl h) =
          inl (same-trans cmp o (p ++ b.0) (p ++ rest) k (same-prepended cmp o p b.0 rest h.0) e, h.1)
      lists-prepended p (b ∷ l) rest k a e (inr h) = inr (lists-prepended p l rest k a e h)

      -- a node's own pair is listed
      own-listed : (p : List K) (v : Option V) (l : List (List K × V)) (k : List K) (a : V) → same_key cmp p k ≡ true
          → v ≡ Some a → Lists cmp (map (prepended p) (own_pair v ++ l)) k a
      own-listed p None l k a e h = none-some a h
      own-listed p (Some v) l k a e h = inl (ap (λ q. same_key cmp q k) (append-nil p) ∙ e, cc)

      -- what a node binds is listed where what its children bind is
      node-listed : (p : List K) (v : Option V) (below : List K → V → Type 0) (l : List (List K × V))
          → ((k : List K) (a : V) → below k a → Lists cmp l k a)
          → (k : List K) (a : V) → NodeBinds cmp p v below k a → Lists cmp (map (prepended p) (own_pair v ++ l)) k a
      node-listed p v below l f k a (inl h) = own-listed p v l k a h.0 h.1
      node-listed p v below l f k a (inr h) = grind (arith, lists-prepended, lists-right)

      -- what one of a list of trees binds is listed
      binds-in_listed : (f : Forest K V) (k : List K) (a : V) → BindsIn cmp f k a → Lists cmp (walk_in f) k a
      binds-in_listed bare k a h = absurd h
      binds-in_listed (grow p v kids rest) k a (inl h) =
          lists-left (map (prepended p) (own_pair v ++ walk_in kids)) (walk_in rest) k a
          (node-listed p v (BindsIn cmp kids) (walk_in kids) (binds-in_listed kids) k a h)
      binds-in_listed (grow p v kids rest) k a (inr h) = grind (arith, binds-in_listed rest k a, lists-right)

      -- what a tree binds is listed
      pub binds-listed : (t : Tree K V) (k : List K) (a : V) → Binds cmp t k a → Lists cmp (walk t) k a
      binds-listed t =
          node-listed t.prefix t.value (BindsIn cmp t.children) (walk_in t.children) (binds-in_listed t.children)

      -- what is listed is looked up
      listed-lookup : (t : Tree K V) → AreOrdered cmp t.children → (k : List K) (a : V) → Lists cmp (walk t) k a
          → lookup cmp t k ≡ Some a
      listed-lookup t d k a h =
          let b = lists-bound (Binds cmp t) (walk t) (walk-bound t) k a h in binds-lookup_same cmp o t d b.0 k a b.1 b.2

      -- the walk lists exactly what the tree binds
      pub walk-lists : (t : Tree K V) → AreOrdered cmp t.children → (k : List K) (a : V)
          → Lists cmp (walk t) k a ↔ (lookup cmp t k ≡ Some a)
      walk-lists t d k a = grind (arith, listed-lookup, binds-listed, lookup-binds)

      -- the walk of a tree is that of its map
      pub walk-is : (t : Tree K V) → AreOrdered cmp t.children → IsWalk cmp (lookup cmp t) (walk t)
      walk-is t d = grind (arith, walk-ascends, walk-lists)

  -- ---- how long the walk is

  -- a node's own pair is there where its value is
  length-own_pair : (v : Option V) (l : List (List K × V)) → length (own_pair v ++ l) ≡ own_count v + length l
  length-own_pair v l = grind arith

  -- a list of trees has as many pairs as values
  length-walk_in : (f : Forest K V) → length (walk_in f) ≡ forest_key_count f
  length-walk_in bare = refl
  length-walk_in (grow p v kids rest) =
      let both = length-append (map (prepended p) (own_pair v ++ walk_in kids)) (walk_in rest) in
      let here = length-map (own_pair v ++ walk_in kids) (prepended p) in
      let own = length-own_pair v (walk_in kids) in
      let below = length-walk_in kids in
      let beside = length-walk_in rest in
      omega (arith, both, here, own, below, beside)

  -- a tree has as many pairs as values
  pub length-walk : (t : Tree K V) → length (walk t) ≡ key_count t
  length-walk t =
      length-map (own_pair t.value ++ walk_in t.children) (prepended t.prefix)
      ∙ length-own_pair t.value (walk_in t.children)
      ∙ ap (λ n. own_count t.value + n) (length-walk_in t.children)
