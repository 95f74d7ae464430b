-- Maps by a prefix of their keys, and their walks.
--     is_walk-equal        a walk of a map is one of each map with the same values
--     walk-under, walk-prefixed        the walk of the pairs under a prefix, and with a prefix before their keys
--     lookup-prepended        what a tree with a prefix before its own binds
--     lists-equal_map        a walk lists what an equal map binds
use Rattle.std.proofs.Common.{◌≡◌, [], ◌∷◌, ◌++◌, List, Option, Some, map, ap, ◌∙◌, true, arith}
use Rattle.std.proofs.Common.{Bool, is_some, inl, inr, ◌⊎◌, cond}
use Rattle.std.specs.List.{filter}
use Rattle.std.specs.Option.{option_and, option_and_then}
use Rattle.std.specs.declared.cmp.Ordering.{Ordering}
use Rattle.std.specs.Cmp.{IsTotalOrder}
use Rattle.std.specs.Cmp.Lexicographic.{slice_cmp}
use Rattle.std.specs.Map.{keys_of}
use Rattle.std.proofs.lemmas.List.Kept.{IsStrictlySortedBy-filter}
use Rattle.vc_tree_model.specs.Key.{same_key, behind}
use Rattle.vc_tree_model.specs.Value.{IsKept}
use Rattle.vc_tree_model.specs.Tree.{Tree, node}
use Rattle.vc_tree_model.specs.Map.{lookup, node_lookup, IsEqualMap}
use Rattle.vc_tree_model.specs.Walk.{IsWalk, Lists, prepended}
use Rattle.vc_tree_model.specs.Under.{under, prefixed}
use Rattle.vc_tree_model.specs.PrefixLaws.{ListsEqualMap}
use Rattle.vc_tree_model.proofs.KeyLemmas.{behind-append, then_behind, behind-of_same, behind-joins, left-behind}
use Rattle.vc_tree_model.proofs.Walking.{Ascend, ascend-prepended, lists-prepended}

module _ {K : Type 0} (cmp : K → K → Ordering) (o : IsTotalOrder cmp) where
  -- both of two equal rests are there, or neither
  starts-kept : (a b : Option (List K)) → IsKept (λ j k. same_key cmp j k ≡ true) a b → is_some a ≡ is_some b
  starts-kept a b h = grind arith

  -- of two equal keys both start with a prefix, or neither
  starts-same : (p j k : List K) → same_key cmp j k ≡ true
      → is_some (behind cmp p j) ≡ is_some (behind cmp p k)
  starts-same p j k h = starts-kept _ _ (behind-of_same cmp o p j k h)

module _ {K V : Type 0} (cmp : K → K → Ordering) where
  -- a walk of a map is one of each map with the same values
  pub is_walk-equal : (f g : List K → Option V) (l : List (List K × V)) → ((k : List K) → g k ≡ f k) → IsWalk cmp f l
      → IsWalk cmp g l
  is_walk-equal f g l e w = grind arith

  -- whether a key starts with a prefix
  abbrev begins : List K → List K × V → Bool
  begins p b = is_some (behind cmp p b.0)

  -- the keys of the pairs that are left are those that are left of the keys
  keys_of-filter : (p : List K) (l : List (List K × V))
      → keys_of (filter (begins p) l) ≡ filter (λ k. is_some (behind cmp p k)) (keys_of l)
  keys_of-filter p (b ∷ l) = grind (arith, keys_of-filter p l)
  keys_of-filter p [] = grind arith

  -- they ascend where all keys do
  ascend-filter : (p : List K) (l : List (List K × V)) → Ascend cmp l → Ascend cmp (filter (begins p) l)
  ascend-filter p l a = rw keys_of-filter (IsStrictlySortedBy-filter (slice_cmp cmp) _ (keys_of l) a)

  -- what a list with or without a first pair has, has the first one, or the others have it
  lists-cond : (c : Bool) (b : List K × V) (l : List (List K × V)) (k : List K) (v : V)
      → Lists cmp (cond c (b ∷ l) l) k v
      → ((c ≡ true) × (same_key cmp b.0 k ≡ true) × (b.1 ≡ v)) ⊎ Lists cmp l k v
  lists-cond c b l k v h = grind arith

  -- the first pair is there where it is kept
  cond-first : (c : Bool) (b : List K × V) (l : List (List K × V)) (k : List K) (v : V) → c ≡ true
      → same_key cmp b.0 k ≡ true → b.1 ≡ v → Lists cmp (cond c (b ∷ l) l) k v
  cond-first c b l k v e h g = grind arith

  module _ (o : IsTotalOrder cmp) where
    -- what is listed of the pairs that are left starts with the prefix, and is listed of all
    filtered-lists : (p : List K) (l : List (List K × V)) (k : List K) (v : V) → Lists cmp (filter (begins p) l) k v
        → (is_some (behind cmp p k) ≡ true) × Lists cmp l k v
    filtered-lists p (b ∷ l) k v h = grind (arith, filtered-lists p l k v, lists-cond, starts-same)
    filtered-lists p [] k v h = grind arith

    -- and the other way round
    lists-filtered : (p : List K) (l : List (List K × V)) (k : List K) (v : V) → is_some (behind cmp p k) ≡ true
        → Lists cmp l k v → Lists cmp (filter (begins p) l) k v
    lists-filtered p [] k v s h = absurd h
    lists-filtered p (b ∷ l) k v s (inl h) = grind (arith, cond-first, starts-same)
    lists-filtered p (b ∷ l) k v s (inr h) = grind (arith, lists-filtered p l k v)

    -- what is there beside something
    and-some : (a : Option (List K)) (b : Option V) (v : V) → option_and a b ≡ Some v
        → (is_some a ≡ true) × (b ≡ Some v)
    and-some a b v h = grind arith

    -- and the other way round
    some-and : (a : Option (List K)) (b : Option V) (v : V) → is_some a ≡ true → b ≡ Some v → option_and a b ≡ Some v
    some-and a b v s h = grind arith

    -- the pairs under a prefix are listed without the others
    pub walk-under : (f : List K → Option V) (l : List (List K × V)) (p : List K) → IsWalk cmp f l
        → IsWalk cmp (under cmp f p) (filter (begins p) l)
    walk-under f l p w = grind (arith, ascend-filter, filtered-lists, some-and, and-some, lists-filtered)

    -- what is listed with a prefix before it, is listed without it of what is left behind the prefix
    prefixed-lists : (p : List K) (l : List (List K × V)) (k : List K) (v : V) → Lists cmp (map (prepended p) l) k v
        → (rest : List K) × (behind cmp p k ≡ Some rest) × Lists cmp l rest v
    prefixed-lists p [] k v h = absurd h
    prefixed-lists p (b ∷ l) k v (inl h) = grind (arith, left-behind)
    prefixed-lists p (b ∷ l) k v (inr h) = grind (arith, prefixed-lists p l k v)

    -- what is bound at what is left behind a prefix, if something is left
    then-some : (f : List K → Option V) (a : Option (List K)) (v : V) → option_and_then f a ≡ Some v
        → (rest : List K) × (a ≡ Some rest) × (f rest ≡ Some v)
    then-some f a v h = grind arith

    -- the pairs with a prefix before their keys are listed with the prefix before each
    pub walk-prefixed : (f : List K → Option V) (l : List (List K × V)) (p : List K) → IsWalk cmp f l
        → IsWalk cmp (prefixed cmp f p) (map (prepended p) l)
    walk-prefixed f l p w = record {
      ascends = ascend-prepended cmp o p l w.ascends;
      lists = λ k v. (
        λ h. let g = prefixed-lists p l k v h in ap (option_and_then f) g.1 ∙ (w.lists g.0 v).0 g.2,
        λ h. let g = then-some f (behind cmp p k) v h in
            lists-prepended cmp o p l g.0 k v (behind-joins cmp o p k g.0 g.1) ((w.lists g.0 v).1 g.2),
      );
    }

  -- a look-up behind a second prefix
  looked-behind : (q : List K) (v : Option V) (f : List K → Option V) (a : Option (List K))
      → node_lookup v f (then_behind cmp q a) ≡ option_and_then (λ r. node_lookup v f (behind cmp q r)) a
  looked-behind q v f a = grind arith

  -- a tree with a prefix before its own binds its keys with the prefix before them
  pub lookup-prepended : (p : List K) (t : Tree K V) (k : List K)
      → lookup cmp (node (p ++ t.prefix) t.value t.children) k ≡ prefixed cmp (lookup cmp t) p k
  lookup-prepended p t k = grind (arith, behind-append, looked-behind)

  module _ (matches : V → V → Type 0) where
    -- a walk lists what an equal map binds, and nothing else
    pub lists-equal_map : (f g : List K → Option V) (l : List (List K × V)) → IsWalk cmp f l → IsEqualMap matches f g
        → ListsEqualMap K V cmp matches l g
    lists-equal_map f g l w e = grind arith
