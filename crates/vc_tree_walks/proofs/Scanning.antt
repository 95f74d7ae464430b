-- The part of a tree that a prefix leads to.
--     IsPart        a node below which all keys are that start with the prefix
--     part-next        the child that the rest of the prefix leads to is one
--     walk-ended, walk-inside        the pairs of such a node, where the prefix ends after or in that of the node
--     behind-parts        what is left behind two parts
--     child-agrees        the child agrees with what is left in one component
--     walk-default, walk-childless        where the two part, and where no child is, there are none
use Rattle.std.proofs.Common.{◌≡◌, ◌≢◌, ℕ, suc, [], ◌∷◌, ◌++◌, take, drop, List, length, Option, None, Some}
use Rattle.std.proofs.Common.{refl, sym, ap, ◌∙◌, true, false, Bool, cond, subst, map, arith}
use Rattle.std.proofs.Math.Seq.{take-length}
use Rattle.std.specs.Option.{option_and, option_and_then}
use Rattle.std.specs.Ordering.{is_eq}
use Rattle.std.specs.Prelude.{slice_get, MatchOption}
use Rattle.std.specs.declared.cmp.Ordering.{Ordering}
use Rattle.std.specs.Cmp.{IsTotalOrder}
use Rattle.std.specs.List.Sorted.{IsStrictlySortedBy}
use Rattle.vc_tree_model.specs.Key.{same_key, behind}
use Rattle.vc_tree_model.specs.Tree.{Tree, Forest}
use Rattle.vc_tree_model.specs.Map.{lookup, lookup_in, node_lookup}
use Rattle.vc_tree_model.specs.Canonical.{IsCanonical}
use Rattle.vc_tree_model.specs.Walk.{IsWalk, prepended, walk}
use Rattle.vc_tree_model.specs.Under.{under, prefixed}
use Rattle.vc_tree_nodes.specs.Parting.{Agree, PartsAt, IsParting}
use Rattle.vc_tree_nodes.specs.declared.parting.Parting.{Parting}
use Rattle.vc_tree_nodes.specs.declared.parting.Parting.TheVariants.{Behind, Inside}
use Rattle.vc_tree_nodes.specs.Places.{IsNoChild, IsFoundChild}
use Rattle.vc_tree_model.proofs.KeyLemmas.{behind-append, behind-joins, behind-same, then_behind}
use Rattle.vc_tree_model.proofs.KeyLemmas.{same-itself, same-flip}
use Rattle.vc_tree_model.proofs.LookupLemmas.{children-ordered, lookup_in-same, lookup-same}
use Rattle.vc_tree_model.proofs.UnderLemmas.{is_walk-equal, walk-prefixed}
use Rattle.vc_tree_model.proofs.Walking.{walk-is}

-- nothing beside something is nothing
and-none : {X Y : Type 0} (a : Option X) → option_and {U = Y} a None ≡ None
and-none a = grind arith

-- a list without a first element is empty
pub no-first : {X : Type 0} (l : List X) → slice_get l 0 ≡ None → l ≡ []
no-first [] e = refl
no-first (x ∷ l) e = grind arith

-- and one with a first element begins with it
pub first-cons : {X : Type 0} (l : List X) (x : X) → slice_get l 0 ≡ Some x → l ≡ x ∷ drop 1 l
first-cons l x e = grind arith

-- what is said of nothing
pub none-of : {X : Type 0} (P : Type 0) (Q : X → Type 0) (r : Option X) → MatchOption r P Q → r ≡ None → P
none-of P Q r h e = grind arith

-- what is said of something
pub some-of : {X : Type 0} (P : Type 0) (Q : X → Type 0) (r : Option X) (x : X) → MatchOption r P Q → r ≡ Some x → Q x
some-of P Q r x h e = grind arith

module _ {K : Type 0} (cmp : K → K → Ordering) where
  -- behind a prefix that agrees, the rest of the key
  left-whole : (p k : List K) → same_key cmp (take (length p) p) (take (length p) k) ≡ true
      → behind cmp p k ≡ Some (drop (length p) k)
  left-whole (x ∷ p) (y ∷ k) h = grind (arith, left-whole p k)
  left-whole p k h = grind arith

  -- nothing further behind
  then-ended : (a : Option (List K)) → then_behind cmp [] a ≡ a
  then-ended a = grind arith

  module _ (o : IsTotalOrder cmp) where
    -- no key starts with two prefixes that part
    apart : (q r k : List K) (n : ℕ) (x y : K) → slice_get q n ≡ Some x → slice_get r n ≡ Some y
        → is_eq (cmp x y) ≡ false → option_and (behind cmp r k) (behind cmp q k) ≡ None
    apart (a ∷ q) (b ∷ r) (c ∷ k) (suc n) x y d e h = grind (arith, apart q r k n x y)
    apart q r k n x y d e h = grind arith

    -- what is left behind two parts is what is left behind the one and then the other
    pub behind-parts : (q r left k : List K) → behind cmp q r ≡ Some left
        → behind cmp r k ≡ then_behind cmp left (behind cmp q k)
    behind-parts q r left k e =
        sym (behind-same cmp o (q ++ left) r k (behind-joins cmp o q r left e)) ∙ behind-append cmp q left k

    -- a component that equals another begins an equal key
    same-first : (x y : K) (s : List K) → is_eq (cmp x y) ≡ true → same_key cmp (x ∷ s) (y ∷ s) ≡ true
    same-first x y s h = grind (arith, same-itself)

module _ {K V : Type 0} (cmp : K → K → Ordering) where
  -- a child that begins as what is left agrees with it in one component
  pub child-agrees : (f : Forest K V) (t : Tree K V) (left : List K) (x : K) (l : List K) → left ≡ x ∷ l
      → IsFoundChild cmp f x t → Agree cmp t.prefix left 1
  child-agrees f t left x l e c = grind arith

module _ {K V : Type 0} where
  -- where the one is there, and the other is there together with it
  and-left : (a : Option (List K)) (v : Option V) (f : List K → Option V)
      → option_and a (node_lookup v f a) ≡ node_lookup v f a
  and-left a v f = grind arith

  -- what two lists have not both, a node has not where the first has it
  and-looked : (a b : Option (List K)) (v : Option V) (f : List K → Option V) → option_and a b ≡ None
      → option_and a (node_lookup v f b) ≡ None
  and-looked a b v f e = grind arith

  -- a look behind equal maps
  then-equal : (f g : List K → Option V) → ((k : List K) → f k ≡ g k) → (a : Option (List K))
      → option_and_then f a ≡ option_and_then g a
  then-equal f g e a = grind arith

  -- none behind a map that has none
  then-none : (f : List K → Option V) → ((k : List K) → f k ≡ None) → (a : Option (List K)) → option_and_then f a ≡ None
  then-none f e a = grind arith

  module _ (cmp : K → K → Ordering) where
    -- inside a prefix
    and-then_left : (m : List K) (a : Option (List K)) (v : Option V) (f : List K → Option V)
        → option_and a (node_lookup v f (then_behind cmp m a)) ≡ node_lookup v f (then_behind cmp m a)
    and-then_left m a v f = grind arith

    -- further behind, what is below a node
    and-below : (x : K) (l : List K) (a : Option (List K)) (v : Option V) (f : List K → Option V)
        → option_and (then_behind cmp (x ∷ l) a) (node_lookup v f a) ≡ option_and_then (under cmp f (x ∷ l)) a
    and-below x l a v f = grind arith

    module _ (o : IsTotalOrder cmp) where
      -- where the prefix ends in that of a node, all of its keys are under it
      under-inside : (t : Tree K V) (r m k : List K) → behind cmp r t.prefix ≡ Some m
          → under cmp (lookup cmp t) r k ≡ lookup cmp t k
      under-inside t r m k e =
          let at = node_lookup t.value (lookup_in cmp t.children) in
          let parts = behind-parts cmp o r t.prefix m k e in
          ap (λ b. option_and (behind cmp r k) (at b)) parts
          ∙ and-then_left m (behind cmp r k) t.value (lookup_in cmp t.children)
          ∙ ap at (sym parts)

      -- and where it ends behind it
      under-ended : (t : Tree K V) (r k : List K) → behind cmp t.prefix r ≡ Some []
          → under cmp (lookup cmp t) r k ≡ lookup cmp t k
      under-ended t r k e =
          let same = behind-parts cmp o t.prefix r [] k e ∙ then-ended cmp (behind cmp t.prefix k) in
          ap (λ a. option_and a (lookup cmp t k)) same
          ∙ and-left (behind cmp t.prefix k) t.value (lookup_in cmp t.children)

      -- where the two part, none is
      under-parted : (order : Ordering) (t : Tree K V) (r k : List K) (n : ℕ) → PartsAt cmp order t.prefix r n
          → is_eq order ≡ false → under cmp (lookup cmp t) r k ≡ None
      under-parted order t r k n p h = grind (arith, and-looked, lookup_in, apart, is_eq)

      -- where the prefix goes on behind that of a node, those below are
      under-below : (t : Tree K V) (r : List K) (x : K) (l k : List K) → behind cmp t.prefix r ≡ Some (x ∷ l)
          → under cmp (lookup cmp t) r k ≡ prefixed cmp (under cmp (lookup_in cmp t.children) (x ∷ l)) t.prefix k
      under-below t r x l k e =
          ap (λ a. option_and a (lookup cmp t k)) (behind-parts cmp o t.prefix r (x ∷ l) k e)
          ∙ and-below x l (behind cmp t.prefix k) t.value (lookup_in cmp t.children)

      -- under a test, equal values
      and-where : (b : Bool) (a : Option (List K)) (v w : Option V) → (b ≡ true → v ≡ w)
          → option_and (cond b a None) v ≡ option_and (cond b a None) w
      and-where b a v w h = grind arith

      -- of the keys that begin with a component, the children have those of one child
      under-child : (f : Forest K V) (x : K) (t : Tree K V) (l k : List K) → IsFoundChild cmp f x t
          → under cmp (lookup_in cmp f) (x ∷ l) k ≡ under cmp (lookup cmp t) (x ∷ l) k
      under-child f x t l [] c = refl
      under-child f x t l (y ∷ k) c =
          and-where (is_eq (cmp x y)) (behind cmp l k) (lookup_in cmp f (y ∷ k)) (lookup cmp t (y ∷ k))
          (λ h. sym (lookup_in-same cmp o f (x ∷ k) (y ∷ k) (same-first cmp o x y k h))
          ∙ c.same k ∙ lookup-same cmp o t (x ∷ k) (y ∷ k) (same-first cmp o x y k h))

      -- or none
      under-childless : (f : Forest K V) (x : K) (l k : List K) → IsNoChild cmp f x
          → under cmp (lookup_in cmp f) (x ∷ l) k ≡ None
      under-childless f x l [] c = refl
      under-childless f x l (y ∷ k) c =
          and-where (is_eq (cmp x y)) (behind cmp l k) (lookup_in cmp f (y ∷ k)) None
          (λ h. sym (lookup_in-same cmp o f (x ∷ k) (y ∷ k) (same-first cmp o x y k h)) ∙ c k)
          ∙ and-none (cond (is_eq (cmp x y)) (behind cmp l k) None)

      -- one prefix before another before the keys of a map, the second spelled in another way
      then-twice : (f : List K → Option V) (q p : List K) → same_key cmp q p ≡ true → (a : Option (List K))
          → option_and_then (prefixed cmp f q) a ≡ option_and_then f (then_behind cmp p a)
      then-twice f q p h a = grind (arith, behind-same)

      -- the keys of the root that start with the prefix are those of the node that start with the rest, behind the front
      pub record IsPart (root : Tree K V) (prefix : List K) (node : Tree K V) (front rest : List K) : Type 0 where
        pub same : (k : List K) → under cmp (lookup cmp root) prefix k ≡ prefixed cmp (under cmp (lookup cmp node) rest) front k

      module _ (root : Tree K V) (prefix : List K) (t : Tree K V) (front rest : List K)
          (p : IsPart root prefix t front rest) where
        -- a node of which all keys are under the rest
        walk-node : IsCanonical cmp t → ((k : List K) → under cmp (lookup cmp t) rest k ≡ lookup cmp t k)
            → IsWalk cmp (under cmp (lookup cmp root) prefix) (map (prepended front) (walk t))
        walk-node c e =
            is_walk-equal cmp (prefixed cmp (lookup cmp t) front) (under cmp (lookup cmp root) prefix) _
            (λ k. p.same k ∙ then-equal (under cmp (lookup cmp t) rest) (lookup cmp t) e (behind cmp front k))
            (walk-prefixed cmp o (lookup cmp t) (walk t) front (walk-is cmp o t (children-ordered cmp t.children c.1)))

        -- a node of which no key is
        walk-none : ((k : List K) → under cmp (lookup cmp t) rest k ≡ None)
            → IsWalk cmp (under cmp (lookup cmp root) prefix) []
        unfolding IsStrictlySortedBy
        walk-none e = grind arith

        -- the prefix ends in that of the node
        pub walk-inside : (n : ℕ) (q : List K) → q ≡ t.prefix → IsCanonical cmp t → Agree cmp q rest n → n ≡ length rest
            → IsWalk cmp (under cmp (lookup cmp root) prefix) (map (prepended front) (walk t))
        walk-inside n q e c a h = walk-node c (λ k. under-inside t rest _ k (left-whole cmp rest t.prefix agree))
          where
            agree : same_key cmp (take (length rest) rest) (take (length rest) t.prefix) ≡ true
            agree =
                same-flip cmp o (take (length rest) rest) (take (length rest) t.prefix)
                ∙ ap (λ m. same_key cmp (take m t.prefix) (take m rest)) (sym h)
                ∙ ap (λ l. same_key cmp (take n l) (take n rest)) (sym e) ∙ a.same

        -- the rest of the prefix behind that of the node
        left_of : (q : List K) → q ≡ t.prefix → Agree cmp q rest (length q)
            → behind cmp t.prefix rest ≡ Some (drop (length q) rest)
        left_of q e a = grind (arith, left-whole)

        -- the prefix ends behind that of the node
        pub walk-ended : (q : List K) → q ≡ t.prefix → IsCanonical cmp t → Agree cmp q rest (length q)
            → drop (length q) rest ≡ [] → IsWalk cmp (under cmp (lookup cmp root) prefix) (map (prepended front) (walk t))
        walk-ended q e c a h = grind (arith, walk-node, under-ended, left_of)

        -- the two part
        walk-parted : (order : Ordering) (q : List K) (n : ℕ) → q ≡ t.prefix → PartsAt cmp order q rest n
            → is_eq order ≡ false → IsWalk cmp (under cmp (lookup cmp root) prefix) []
        walk-parted order q n e a h =
            walk-none (λ k. under-parted order t rest k n (subst (λ l. PartsAt cmp order l rest n) e a) h)

        -- no child is where the rest leads
        pub walk-childless : (q : List K) (x : K) (l : List K) → q ≡ t.prefix → Agree cmp q rest (length q)
            → drop (length q) rest ≡ x ∷ l → IsNoChild cmp t.children x
            → IsWalk cmp (under cmp (lookup cmp root) prefix) []
        walk-childless q x l e a h c =
            walk-none
            (λ k. under-below t rest x l k (left_of q e a ∙ ap Some h)
            ∙ then-none (under cmp (lookup_in cmp t.children) (x ∷ l)) (λ j. under-childless t.children x l j c)
            (behind cmp t.prefix k))

        -- the two part, whichever goes on with the lesser component
        pub walk-default : (q : List K) (parting : Parting) → q ≡ t.prefix → IsParting cmp q rest parting
            → parting ≢ Behind → ((n : ℕ) → parting ≢ Inside n) → IsWalk cmp (under cmp (lookup cmp root) prefix) []
        walk-default q parting e a h i = grind (arith, walk-parted)

        -- the same node with its front and rest as slices
        pub part-split : (a b : List K) → a ≡ front → b ≡ rest → IsPart root prefix t a b
        part-split a b e h = grind arith

        -- the child where the rest leads
        pub part-next : (q left : List K) (x : K) (l : List K) (child : Tree K V) → q ≡ t.prefix
            → Agree cmp q rest (length q) → left ≡ drop (length q) rest → left ≡ x ∷ l
            → IsFoundChild cmp t.children x child → IsPart root prefix child (front ++ take (length q) rest) left
        part-next q left x l child e a d h c = record { same = by }
          where
            spelled : same_key cmp t.prefix (take (length q) rest) ≡ true
            spelled =
                ap (λ l. same_key cmp l (take (length q) rest)) (sym e ∙ sym (take-length q)) ∙ a.same

            by : (k : List K) → under cmp (lookup cmp root) prefix k
                ≡ prefixed cmp (under cmp (lookup cmp child) left) (front ++ take (length q) rest) k
            by k =
                p.same k
                ∙ then-equal (under cmp (lookup cmp t) rest) (prefixed cmp (under cmp (lookup cmp child) (x ∷ l)) t.prefix)
                (λ j. under-below t rest x l j (left_of q e a ∙ ap Some (sym d ∙ h))
                ∙ then-equal (under cmp (lookup_in cmp t.children) (x ∷ l)) (under cmp (lookup cmp child) (x ∷ l))
                (λ s. under-child t.children x child l s c) (behind cmp t.prefix j))
                (behind cmp front k)
                ∙ then-twice (under cmp (lookup cmp child) (x ∷ l)) t.prefix (take (length q) rest) spelled (behind cmp front k)
                ∙ ap (option_and_then (under cmp (lookup cmp child) (x ∷ l)))
                (sym (behind-append cmp front (take (length q) rest) k))
                ∙ ap (λ m. prefixed cmp (under cmp (lookup cmp child) m) (front ++ take (length q) rest) k) (sym h)
